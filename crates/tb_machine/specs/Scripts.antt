-- Scripts: moments and requests, one after another, and what a server makes of them.
use Rattle.std.specs.Prelude.{ℕ, Bool, ◌&&◌, ◌+◌, nat_le, List, [], ◌∷◌, ◌++◌, if◌then◌else◌, fold}
use Rattle.tb_records.specs.declared.limits.Profile.{Profile}
use Rattle.tb_records.specs.Messages.{Message, Answer}
use Rattle.tb_records.specs.declared.limits.TheConstants.{LAST_MOMENT}
use Rattle.tb_sessions.specs.Judged.{class_of}
use Rattle.tb_machine.specs.declared.entries.Entry.{Entry}
use Rattle.tb_machine.specs.Histories.{State, time_of, is_new, step, after, answer_to}

-- the moment at which a request comes, in nanoseconds, and the request
abbrev pub Pair : Type 0
Pair = ℕ × Message

-- the entry that the pair makes if it is entered
abbrev pub entry_of : State → Pair → Entry
entry_of S p = record { commit = S.commit + 1; time = time_of S p.0 p.1; request = p.1 }

abbrev pub has_time : State → Pair → Bool
has_time S p = nat_le (time_of S p.0 p.1) LAST_MOMENT

abbrev pub is_entered : State → Pair → Bool
is_entered S p = is_new (class_of S.rows p.1) && has_time S p

-- the state after the pair
abbrev pub after_pair : State → Pair → State
after_pair S p = if is_entered S p then step S (entry_of S p) else S

-- the history with the pair's entry, if it is entered
abbrev pub grown : (List Entry → State) → List Entry → Pair → List Entry
grown state h p = if is_entered (state h) p then h ++ entry_of (state h) p ∷ [] else h

module _ (profile : Profile) (clients_max : ℕ) where
  -- the history that a script makes
  abbrev pub accepted : List Entry → List Pair → List Entry
  accepted h ps = fold (grown (after profile clients_max)) h ps

  -- the reply to each request, by the history up to it and including it
  abbrev pub replies_from : List Entry → List Pair → List Answer
  replies_from h [] = []
  replies_from h (p ∷ ps) = let m = grown (after profile clients_max) h p in answer_to (after profile clients_max m) p.1 ∷ replies_from m ps

  abbrev pub replies_to : List Pair → List Answer
  replies_to ps = replies_from [] ps
