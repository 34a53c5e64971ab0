-- A batch is cut into chains in one way.
use Rattle.tb_ledger.proofs.Common.{◌≡◌, Bool, true, false, cond, List, [], ◌∷◌, ◌++◌, refl, sym, ap, subst, ◌∙◌, append-nil, Each, Kind, Timed, joined, chains, in_turn, IsChain, ends_linked, AreEnded, IsCutting, CutsOneWay}

module _ {E : Type 0} (kind : Kind E) where
  -- a chain at the front, with more after it
  front_of : (b : List (Timed E)) (later : List (Timed E)) → IsChain kind b → ends_linked kind b ≡ false → chains kind (b ++ later) ≡ b ∷ chains kind later
  front_of [] later is ended = absurd is
  front_of (x ∷ []) later is ended = rw ended refl
  front_of (x ∷ y ∷ ys) later is ended = rw (is.0, front_of (y ∷ ys) later is.1 ended) refl

  -- a chain that is all
  alone_of : (b : List (Timed E)) → IsChain kind b → chains kind b ≡ b ∷ []
  alone_of [] is = absurd is
  alone_of (x ∷ []) is = elim (kind.linked x.0) as (λ l. cond l ((x ∷ []) ∷ []) ((x ∷ []) ∷ []) ≡ (x ∷ []) ∷ []) [ true ↦ refl | false ↦ refl ]
  alone_of (x ∷ y ∷ ys) is = rw (is.0, alone_of (y ∷ ys) is.1) refl

  -- whatever is a cutting is the cutting
  only_one : (cutting : List (List (Timed E))) → Each (IsChain kind) cutting → AreEnded kind cutting → chains kind (in_turn cutting) ≡ cutting
  only_one [] are ended = refl
  only_one (b ∷ []) are ended = ap (chains kind) (append-nil b) ∙ alone_of b are.0
  only_one (b ∷ c ∷ rest) are ended = front_of b (in_turn (c ∷ rest)) are.0 ended.0 ∙ ap (λ cs. b ∷ cs) (only_one (c ∷ rest) are.1 ended.1)

  -- and it is one
  whole_joined : (x : Timed E) (bs : List (List (Timed E))) → in_turn (joined kind x bs) ≡ x ∷ in_turn bs
  whole_joined x [] = refl
  whole_joined x (b ∷ bs) = refl

  chains_joined : (x : Timed E) (bs : List (List (Timed E))) → kind.linked x.0 ≡ true → Each (IsChain kind) bs → Each (IsChain kind) (joined kind x bs)
  chains_joined x [] is each = (tt, tt)
  chains_joined x ([] ∷ bs) is each = absurd each.0
  chains_joined x ((y ∷ ys) ∷ bs) is each = ((is, each.0), each.1)

  ended_joined : (x : Timed E) (bs : List (List (Timed E))) → Each (IsChain kind) bs → AreEnded kind bs → AreEnded kind (joined kind x bs)
  ended_joined x [] each ended = tt
  ended_joined x ([] ∷ bs) each ended = absurd each.0
  ended_joined x ((y ∷ ys) ∷ []) each ended = tt
  ended_joined x ((y ∷ ys) ∷ c ∷ bs) each ended = ended

  ended_front : (x : Timed E) (bs : List (List (Timed E))) → kind.linked x.0 ≡ false → AreEnded kind bs → AreEnded kind ((x ∷ []) ∷ bs)
  ended_front x [] is ended = tt
  ended_front x (b ∷ bs) is ended = (is, ended)

  it_cuts : (events : List (Timed E)) → IsCutting kind events (chains kind events)
  it_cuts [] = record { whole = refl; are_chains = tt; are_ended = tt }
  it_cuts (x ∷ xs) = by (kind.linked x.0) refl (it_cuts xs)
    where
      by : (l : Bool) → kind.linked x.0 ≡ l → IsCutting kind xs (chains kind xs) → IsCutting kind (x ∷ xs) (cond l (joined kind x (chains kind xs)) ((x ∷ []) ∷ chains kind xs))
      by true is later = record {
        whole = whole_joined x (chains kind xs) ∙ ap (λ es. x ∷ es) later.whole;
        are_chains = chains_joined x (chains kind xs) is later.are_chains;
        are_ended = ended_joined x (chains kind xs) later.are_chains later.are_ended;
      }
      by false is later = record {
        whole = ap (λ es. x ∷ es) later.whole;
        are_chains = (tt, later.are_chains);
        are_ended = ended_front x (chains kind xs) is later.are_ended;
      }

  pub cuts_one_way : CutsOneWay kind
  cuts_one_way events cutting = (λ cut. sym (ap (chains kind) (sym cut.whole) ∙ only_one cutting cut.are_chains cut.are_ended), λ is. subst (IsCutting kind events) (sym is) (it_cuts events))
