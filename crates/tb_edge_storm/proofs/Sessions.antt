-- What a client sends in a session: its register, and calls of one session, each with a number of its own.
use Rattle.std.proofs.Common.{◌≡◌, ◌⊎◌, inl, inr, ℕ, zero, suc, ◌+◌, ◌≤◌, ◌==◌, Bool, true, false, eqb-true, IsTrue, refl, sym, ap, ◌∙◌, arith}
use Rattle.std.proofs.lemmas.Bool.{eqb-false}
use Rattle.tb_records.specs.declared.bodies.Body.{Body}
use Rattle.tb_records.specs.declared.bodies.Body.TheVariants.{Register}
use Rattle.tb_records.specs.Messages.{Message, asked, is_register}
use Rattle.tb_records.specs.Ordered.{Each}
use Rattle.tb_machine.specs.Histories.{is_lawful}
use Rattle.tb_caller.specs.Endpoints.{IsAmong}
use Rattle.tb_caller.specs.Calls.{IsCall, AreOfOne}
use Rattle.tb_edge_storm.specs.Calls.{sent_in_session}

module _ (id session : ℕ) (call : ℕ → Body) where
  -- one of the calls
  pub record IsNumbered (count : ℕ) (r : Message) : Type 0 where
    pub number : ℕ
    pub from : 1 ≤ number
    pub to : number ≤ count
    pub is : r ≡ asked id session number (call number)

  numbered_more : (count : ℕ) (r : Message) → IsNumbered count r → IsNumbered (suc count) r
  numbered_more count r n = record { number = n.number; from = n.from; to = omega (arith, n.to); is = n.is }

  which : (count : ℕ) (r : Message) → IsAmong r (sent_in_session id session call count) → (r ≡ asked id 0 0 Register) ⊎ IsNumbered count r
  which zero r (inl same) = inl same
  which zero r (inr later) = absurd later
  which (suc count) r (inl same) = inr (record { number = count + 1; from = omega arith; to = omega arith; is = same })
  which (suc count) r (inr later) = by (which count r later)
    where
      by : (r ≡ asked id 0 0 Register) ⊎ IsNumbered count r → (r ≡ asked id 0 0 Register) ⊎ IsNumbered (suc count) r
      by (inl same) = inl same
      by (inr n) = inr (numbered_more count r n)

  -- each call up to the last one is there
  pub among : (count k : ℕ) → 1 ≤ k → k ≤ count → IsAmong (asked id session k (call k)) (sent_in_session id session call count)
  among zero k from to = absurd (omega (arith, from, to))
  among (suc count) k from to = by (k == count + 1) refl (among count k from)
    where
      by : (b : Bool) → (k == count + 1) ≡ b → (k ≤ count → IsAmong (asked id session k (call k)) (sent_in_session id session call count))
          → IsAmong (asked id session k (call k)) (sent_in_session id session call (suc count))
      by true e earlier = inl (ap (λ (n : ℕ). asked id session n (call n)) (eqb-true k (count + 1) e))
      by false e earlier = let other : k ≡ count + 1 → ⊥ = eqb-false k (count + 1) e in inr (earlier (omega (arith, to, other)))

  -- a call is numbered
  a_call : (count : ℕ) (r : Message) → IsAmong r (sent_in_session id session call count) → IsCall r → IsNumbered count r
  a_call count r is call_is = by (which count r is)
    where
      by : (r ≡ asked id 0 0 Register) ⊎ IsNumbered count r → IsNumbered count r
      by (inl same) = absurd (let both : true ≡ false = sym (ap (λ (m : Message). is_register m.body) same) ∙ call_is in cc)
      by (inr n) = n

  each_client : (count : ℕ) → Each (λ (r : Message). r.client ≡ id) (sent_in_session id session call count)
  each_client zero = (refl, tt)
  each_client (suc count) = (refl, each_client count)

  pub are_of_one : (count : ℕ) → Each (λ (r : Message). IsTrue (is_lawful r)) (sent_in_session id session call count) → AreOfOne id (sent_in_session id session call count)
  are_of_one count lawful = record {
    client = each_client count;
    lawful = lawful;
    session = λ r s is also one two. ap (λ (m : Message). m.session) (a_call count r is one).is ∙ sym (ap (λ (m : Message). m.session) (a_call count s also two).is);
    number = λ r s is also one two same.
        let m = a_call count r is one in
        let n = a_call count s also two in
        let numbers : m.number ≡ n.number = sym (ap (λ (x : Message). x.request) m.is) ∙ (same ∙ ap (λ (x : Message). x.request) n.is) in
        m.is ∙ (ap (λ (k : ℕ). asked id session k (call k)) numbers ∙ sym n.is);
  }
