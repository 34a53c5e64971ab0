-- Turns one after another.
use Rattle.std.proofs.Common.{◌≡◌, ◌≢◌, ℕ, suc, ◌+◌, Bool, true, false, ◌&&◌, if◌then◌else◌, Result, Ok, Err, List, [], ◌∷◌, ◌++◌, length, Option, Some, None, refl, sym, ap, ◌∙◌, subst, append_assoc, append-nil, arith}
use Rattle.std.specs.Result.{result_err}
use Rattle.tb_records.specs.Messages.{Message}
use Rattle.tb_sessions.specs.declared.classes.Class.{Class}
use Rattle.tb_sessions.specs.declared.classes.Class.TheVariants.{New, Repeat, NoSession, SessionTooLow, NewerSession, Older, Collision, NewerRequest}
use Rattle.tb_sessions.specs.Judged.{class_of}
use Rattle.tb_machine.specs.declared.entries.Entry.{Entry}
use Rattle.tb_machine.specs.Histories.{after, State, is_new}
use Rattle.tb_machine.specs.Scripts.{Pair, entry_of, has_time, is_entered, grown}
use Rattle.tb_machine.proofs.Legal.{fold_append}
use Rattle.tb_published.specs.declared.faults.TakeFault.{TakeFault}
use Rattle.tb_published.specs.declared.faults.TakeFault.TheVariants as fault
use Rattle.tb_published.specs.declared.faults.Taken.{Taken}
use Rattle.tb_published.specs.declared.faults.Taken.TheVariants as taken
use Rattle.tb_published.specs.Openings.{Opening, after_in}
use Rattle.tb_published.specs.Taking.{Enters}
use Rattle.tb_service.specs.History.{accepted_in, Turn, requests_at, moments_at, places_at, unless, pairs_kept, at_place, refused_from, FaultIsRight, turn_of, HasTurn, FaultsAreRight, StepsLead, ServerState, Serves, ServesOn}

-- lists of turns, one after the other

accepted-append : (o : Opening) (h : List Entry) (xs ys : List Pair) → accepted_in o h (xs ++ ys) ≡ accepted_in o (accepted_in o h xs) ys
accepted-append o h xs ys = fold_append (grown (after o.profile o.clients_max)) h xs ys

requests_at-append : (xs ys : List Turn) → requests_at (xs ++ ys) ≡ requests_at xs ++ requests_at ys
requests_at-append [] ys = refl
requests_at-append (t ∷ ts) ys = ap (λ (l : List Message). t.request ∷ l) (requests_at-append ts ys)

moments_at-append : (xs ys : List Turn) → moments_at (xs ++ ys) ≡ moments_at xs ++ moments_at ys
moments_at-append [] ys = refl
moments_at-append (t ∷ ts) ys = ap (λ (l : List ℕ). t.moment ∷ l) (moments_at-append ts ys)

pairs_kept-append : (xs ys : List Turn) → pairs_kept (xs ++ ys) ≡ pairs_kept xs ++ pairs_kept ys
pairs_kept-append [] ys = refl
pairs_kept-append (t ∷ ts) ys =
    let pairs : List Pair = unless t.fault (t.moment, t.request) in
    ap (λ (l : List Pair). pairs ++ l) (pairs_kept-append ts ys) ∙ sym (append_assoc pairs (pairs_kept ts) (pairs_kept ys))

places_at-append : (n m : ℕ) (xs ys : List Turn) → n + length xs ≡ m → places_at n (xs ++ ys) ≡ places_at n xs ++ places_at m ys
places_at-append n m [] ys is = ap (λ (k : ℕ). places_at k ys) (omega arith)
places_at-append n m (t ∷ ts) ys is = ap (λ (l : List ℕ). n ∷ l) (places_at-append (n + 1) m ts ys (omega arith))

refused_from-append : (n m : ℕ) (xs ys : List Turn) → n + length xs ≡ m → refused_from n (xs ++ ys) ≡ refused_from n xs ++ refused_from m ys
refused_from-append n m [] ys is = ap (λ (k : ℕ). refused_from k ys) (omega arith)
refused_from-append n m (t ∷ ts) ys is =
    ap (λ (l : List (ℕ × TakeFault)). at_place n t.fault ++ l) (refused_from-append (n + 1) m ts ys (omega arith))
    ∙ sym (append_assoc (at_place n t.fault) (refused_from (n + 1) ts) (refused_from m ys))

kept_one : (t : Turn) → pairs_kept (t ∷ []) ≡ unless t.fault (t.moment, t.request)
kept_one t = append-nil (unless t.fault (t.moment, t.request))

lawful-append : (o : Opening) (h : List Entry) (xs ys : List Turn) → FaultsAreRight o h xs → FaultsAreRight o (accepted_in o h (pairs_kept xs)) ys → FaultsAreRight o h (xs ++ ys)
lawful-append o h [] ys these those = those
lawful-append o h (t ∷ ts) ys these those =
    let same : accepted_in o h (pairs_kept (t ∷ ts)) ≡ accepted_in o (accepted_in o h (pairs_kept (t ∷ []))) (pairs_kept ts) =
    ap (accepted_in o h) (ap (λ (l : List Pair). l ++ pairs_kept ts) (sym (kept_one t))) ∙ accepted-append o h (pairs_kept (t ∷ [])) (pairs_kept ts) in
    (these.0, lawful-append o (accepted_in o h (pairs_kept (t ∷ []))) ts ys these.1 (subst (λ (m : List Entry). FaultsAreRight o m ys) same those))

leads-append : {S : Type 0} (step : S → ℕ → S → Type 0) (x y z : S) (ks ls : List ℕ) → StepsLead step x ks y → StepsLead step y ls z → StepsLead step x (ks ++ ls) z
leads-append {S} step x y z [] ls these those = subst (λ (s : S). StepsLead step s ls z) (sym these) those
leads-append step x y z (k ∷ ks) ls these those = (these.0, these.1, leads-append step these.0 y z ks ls these.2 those)

length-requests_at : (ts : List Turn) → length (requests_at ts) ≡ length ts
length-requests_at [] = refl
length-requests_at (t ∷ ts) = ap suc (length-requests_at ts)

module _ {M G : Type 0} (o : Opening) (tells : M → ℕ → M → Type 0) (passes : G → ℕ → G → Type 0) where
  pub serves_none : (x : ServerState M G) (n : ℕ) → Serves o tells passes x n [] [] x
  serves_none x n = record { turns = []; served = refl; lawful = tt; refusals = refl; history = refl; moments = refl; gate = refl }

  pub serves_more : (x y z : ServerState M G) (n m : ℕ) (rs ss : List Message) (fs gs : List (ℕ × TakeFault)) → n + length rs ≡ m
      → Serves o tells passes x n rs fs y → Serves o tells passes y m ss gs z → Serves o tells passes x n (rs ++ ss) (fs ++ gs) z
  serves_more x y z n m rs ss fs gs is these those =
      let xs : List Turn = these.turns in
      let ys : List Turn = those.turns in
      let m_is : n + length xs ≡ m = (let e = length-requests_at xs in let f : length (requests_at xs) ≡ length rs = ap length these.served in omega arith) in
      record {
        turns = xs ++ ys;
        served = requests_at-append xs ys ∙ (λ i. these.served i ++ those.served i);
        lawful = lawful-append o x.history xs ys these.lawful (subst (λ (h : List Entry). FaultsAreRight o h ys) (sym these.history) those.lawful);
        refusals = refused_from-append n m xs ys m_is ∙ (λ i. these.refusals i ++ those.refusals i);
        history = ap (accepted_in o x.history) (pairs_kept-append xs ys) ∙ accepted-append o x.history (pairs_kept xs) (pairs_kept ys)
            ∙ ap (λ (h : List Entry). accepted_in o h (pairs_kept ys)) these.history ∙ those.history;
        moments = subst (λ (l : List ℕ). StepsLead tells x.moments l z.moments) (sym (moments_at-append xs ys))
            (leads-append tells x.moments y.moments z.moments (moments_at xs) (moments_at ys) these.moments those.moments);
        gate = subst (λ (l : List ℕ). StepsLead passes x.gate l z.gate) (sym (places_at-append n m xs ys m_is))
            (leads-append passes x.gate y.gate z.gate (places_at n xs) (places_at m ys) these.gate those.gate);
      }

  -- one turn
  pub serves_one : (x y : ServerState M G) (n : ℕ) (t : Turn) → FaultIsRight o x.history t → accepted_in o x.history (unless t.fault (t.moment, t.request)) ≡ y.history
      → tells x.moments t.moment y.moments → passes x.gate n y.gate → Serves o tells passes x n (t.request ∷ []) (at_place n t.fault) y
  serves_one x y n t lawful history told passed = record {
    turns = t ∷ [];
    served = refl;
    lawful = (lawful, tt);
    refusals = append-nil (at_place n t.fault);
    history = ap (accepted_in o x.history) (kept_one t) ∙ history;
    moments = (y.moments, told, refl);
    gate = (y.gate, passed, refl);
  }

  pub serves_on_none : (x : ServerState M G) (n : ℕ) (fs : List (ℕ × TakeFault)) → ServesOn o tells passes x n [] fs fs x
  serves_on_none x n fs = record { more = []; added = sym (append-nil fs); serves = serves_none x n }

  pub serves_on_more : (x y z : ServerState M G) (n m : ℕ) (rs ss : List Message) (a b c : List (ℕ × TakeFault)) → n + length rs ≡ m
      → ServesOn o tells passes x n rs a b y → ServesOn o tells passes y m ss b c z → ServesOn o tells passes x n (rs ++ ss) a c z
  serves_on_more x y z n m rs ss a b c is these those = record {
    more = these.more ++ those.more;
    added = those.added ∙ ap (λ (l : List (ℕ × TakeFault)). l ++ those.more) these.added ∙ append_assoc a these.more those.more;
    serves = serves_more x y z n m rs ss these.more those.more is these.serves those.serves;
  }

  -- the same, of equal things
  pub serves_on_at : (x x' y y' : ServerState M G) (n n' : ℕ) (rs : List Message) (a a' b b' : List (ℕ × TakeFault)) → x ≡ x' → n ≡ n' → a ≡ a' → b ≡ b' → y ≡ y'
      → ServesOn o tells passes x n rs a b y → ServesOn o tells passes x' n' rs a' b' y'
  serves_on_at x x' y y' n n' rs a a' b b' xs ns as' bs ys =
      subst (λ (t : ServerState M G × ℕ × List (ℕ × TakeFault) × List (ℕ × TakeFault) × ServerState M G). ServesOn o tells passes t.0 t.1 rs t.2 t.3 t.4) (λ i. (xs i, ns i, as' i, bs i, ys i))

  -- one turn at the place n: of a request that is kept, and of one that is left out

  pub serves_on_kept : (x y : ServerState M G) (n place moment : ℕ) (r : Message) (a : List (ℕ × TakeFault)) → place ≡ n → HasTurn o x.history (turn_of moment r None) y.history
      → tells x.moments moment y.moments → passes x.gate place y.gate → ServesOn o tells passes x n (r ∷ []) a a y
  serves_on_kept x y n place moment r a here turn told passed = record {
    more = [];
    added = sym (append-nil a);
    serves = serves_one x y n (turn_of moment r None) turn.lawful turn.history told (subst (λ (k : ℕ). passes x.gate k y.gate) here passed);
  }

  pub serves_on_refused : (x y : ServerState M G) (n place moment : ℕ) (r : Message) (f : TakeFault) (a b : List (ℕ × TakeFault)) → place ≡ n → b ≡ a ++ (place, f) ∷ []
      → HasTurn o x.history (turn_of moment r (Some f)) y.history
      → tells x.moments moment y.moments → passes x.gate place y.gate → ServesOn o tells passes x n (r ∷ []) a b y
  serves_on_refused x y n place moment r f a b here added turn told passed = record {
    more = (n, f) ∷ [];
    added = added ∙ ap (λ (k : ℕ). a ++ (k, f) ∷ []) here;
    serves = serves_one x y n (turn_of moment r (Some f)) turn.lawful turn.history told (subst (λ (k : ℕ). passes x.gate k y.gate) here passed);
  }

-- what the history does with one request

not_new : (class : Class) → class ≢ New → is_new class ≡ false
not_new New other = absurd (other refl)
not_new Repeat other = refl
not_new NoSession other = refl
not_new SessionTooLow other = refl
not_new NewerSession other = refl
not_new Older other = refl
not_new Collision other = refl
not_new NewerRequest other = refl

module _ (o : Opening) (h m : List Entry) (r : Message) (now : ℕ) where
  abbrev here : State
  here = after_in o h

  abbrev class : Class
  class = class_of here.rows r

  abbrev entry : Entry
  entry = entry_of here (now, r)

  entered_as : (b : Bool) → is_entered here (now, r) ≡ b → accepted_in o h ((now, r) ∷ []) ≡ (if b then h ++ entry ∷ [] else h)
  entered_as b is = ap (λ (b : Bool). if b then h ++ entry ∷ [] else h) is

  stays : class ≢ New → accepted_in o h ((now, r) ∷ []) ≡ h
  stays other = entered_as false (ap (λ (b : Bool). b && has_time here (now, r)) (not_new class other))

  accepts : (t : Taken) → Enters o h r now (Ok t) m → HasTurn o h (turn_of now r None) m
  accepts (taken.Committed c) e = record {
    lawful = λ _. e.1;
    history = entered_as true (ap (λ (k : Class). is_new k && has_time here (now, r)) e.0 ∙ e.1) ∙ sym e.3;
  }
  accepts (taken.Repeat c) e = let other : class ≢ New = λ new. cc in record { lawful = λ new. absurd (other new); history = stays other ∙ sym e.2 }
  accepts (taken.Refused s) e = record { lawful = λ new. absurd (e.0 new); history = stays e.0 ∙ sym e.3 }

  refuses : (f : TakeFault) → Enters o h r now (Err f) m → HasTurn o h (turn_of now r (Some f)) m
  refuses fault.NoMemory e = record { lawful = (e.0, e.1); history = sym e.2 }
  refuses fault.TimeExhausted e = record { lawful = (e.0, e.1); history = sym e.2 }
  refuses (fault.Unpublished c) e = absurd e

-- what the entering of a request returns
pub has_turn : (o : Opening) (h m : List Entry) (r : Message) (now : ℕ) (answer : Result Taken TakeFault) (left_out : Option TakeFault) → left_out ≡ result_err answer
    → Enters o h r now answer m → HasTurn o h (turn_of now r left_out) m
has_turn o h m r now (Ok t) None is entered = accepts o h m r now t entered
has_turn o h m r now (Ok t) (Some f) is entered = absurd cc
has_turn o h m r now (Err f) None is entered = absurd cc
has_turn o h m r now (Err f) (Some g) is entered =
    let same : f ≡ g = cc in
    subst (λ (k : TakeFault). HasTurn o h (turn_of now r (Some k)) m) same (refuses o h m r now f entered)
