use Rattle.std.proofs.Common.{◌≡◌, inl, inr, List, [], ◌∷◌, ◌++◌, Result, Ok, Err, refl, sym, ap, ◌∙◌, rules}
use Rattle.std.proofs.lemmas.Result.{err_from_is_err_and}
use mathlib.Core.List.{IsPrefix}
use Rattle.tb_records.specs.declared.replies.Status.TheVariants as status
use Rattle.tb_records.specs.Messages.{Message, Answer}
use Rattle.tb_machine.specs.declared.entries.Entry.{Entry}
use Rattle.tb_machine.specs.Histories.{answer_to}
use Rattle.tb_published.specs.Openings.{Opening, AnswersIn, after_in}
use Rattle.tb_published.proofs.Prefixes.{prefix_trans}
use Rattle.tb_service.specs.Ports.{Offers, SendsOrReturns}
use Rattle.tb_service.specs.Calls.{OffersOnce}
use Rattle.tb_service.proofs.ports.Port.call.Goals as goal

offers_once : (o : Opening) (old seen new : List Entry) (request copy : Message) (reply : Answer) (result : Result (Unit {0}) Message) (before after : Offers)
    → IsPrefix old seen → IsPrefix seen new → AnswersIn o seen request reply → reply.status ≡ status.NotYet → copy ≡ request
    → SendsOrReturns result copy (copy ∷ []) before after → OffersOnce o old new request before after
offers_once o old seen new request copy reply (Ok u) before after begins grows answer waits same sent = inr (
  sent ∙ ap (λ (m : Message). before.offered ++ m ∷ []) same,
  record { seen = seen; begins = begins; grows = grows; legal = answer.0; waits = ap (λ (a : Answer). a.status) (sym answer.1.0) ∙ waits },
)
offers_once o old seen new request copy reply (Err back) before after begins grows answer waits same sent = inl sent.1

pub returns-then-ne : goal.returns-then-ne
returns-then-ne g c = record { begins = c.answer.ensures.begins; answer = c.in_ok-reply.ensures.answer; offered = inl refl; same = (refl, refl) }

pub returns-in_err-reply : goal.returns-in_err-reply
returns-in_err-reply g c =
    let p = err_from_is_err_and c.from_residual.result c.from_residual.ensures.1 in
    record { begins = c.answer.ensures.begins; answer = rw p.1 tt; offered = inl refl; same = (refl, refl) }

pub returns-in_default : goal.returns-in_default
returns-in_default g c = record { begins = c.answer.ensures.begins; answer = tt; offered = inl refl; same = (refl, refl) }

pub ask-requires : goal.ask-requires
ask-requires g c = record { legal = c.in_ok-reply.ensures.answer.0; answer = c.in_ok-reply.ensures.answer.1 }

pub returns : goal.returns
returns g c =
    let waits : c.in_ok-reply.reply.status ≡ status.NotYet = search rules in
    record {
      begins = prefix_trans c.args.seat.now c.answer.new.self c.ask.new.seat c.answer.ensures.begins c.ask.ensures.begins;
      answer = c.ask.ensures.answer;
      offered = offers_once g.J.Naming.opening c.args.seat.now c.answer.new.self c.ask.new.seat c.args.request.now c.in-Ok.copy c.in_ok-reply.reply c.offer.result c.args.self.now c.offer.new.self
          c.answer.ensures.begins c.ask.ensures.begins c.in_ok-reply.ensures.answer waits c.in-Ok.ensures c.offer.ensures.offered;
      same = c.offer.ensures.same;
    }
