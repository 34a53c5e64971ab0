-- Steps that are read and answered, one after another.
use Rattle.std.proofs.Common.{ℕ, List, [], ◌∷◌, ◌++◌, Option, sym, ap, ◌∙◌, subst, append-nil}
use Rattle.std.proofs.KnownBytes.{Consumes-nil, Consumes-trans, Appends-nil, Appends-trans}
use Rattle.std.proofs.lemmas.List.Concat.{flat_map-append}
use Rattle.std.proofs.lemmas.List.Elements.{All-nil, All-cons, All-append}
use Rattle.std.specs.Io.KnownBytes.{Consumes, Appends}
use Rattle.tb_oracle.specs.Steps.{IsStepAnswer}
use Rattle.tb_oracle.specs.Streams.{Exchange, HasExchanged, IsExchange, ReadsStep, answers, steps}

-- before the first step
pub none_exchanged : (input output : Option (List ℕ)) → HasExchanged [] input input output output
none_exchanged input output = record { right = All-nil IsExchange; read = Consumes-nil input; written = Appends-nil output }

-- one more step
pub exchanged_more : (xs : List Exchange) (x : Exchange) (input left rest output written more : Option (List ℕ))
    → HasExchanged xs input left output written
    → ReadsStep x.head x.rest left rest
    → IsStepAnswer x.head x.rest x.answer
    → Appends written more x.answer
    → HasExchanged (xs ++ x ∷ []) input rest output more
exchanged_more xs x input left rest output written more so_far reads answered writes = record {
  right = All-append IsExchange xs (x ∷ []) so_far.right (All-cons IsExchange x [] (record { step = reads.1; answered = answered }) (All-nil IsExchange));
  read = subst (Consumes input rest)
      (sym (flat_map-append (λ (y : Exchange). y.head ++ y.rest) xs (x ∷ []) ∙ ap (λ (l : List ℕ). steps xs ++ l) (append-nil (x.head ++ x.rest))))
      (Consumes-trans input left rest (steps xs) (x.head ++ x.rest) so_far.read reads.0);
  written = subst (Appends output more)
      (sym (flat_map-append (λ (y : Exchange). y.answer) xs (x ∷ []) ∙ ap (λ (l : List ℕ). answers xs ++ l) (append-nil x.answer)))
      (Appends-trans output written more (answers xs) x.answer so_far.written writes);
}
