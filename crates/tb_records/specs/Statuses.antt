-- The names of statuses.
use Rattle.std.specs.Prelude.{ℕ, List, [], ◌∷◌, codes}
use Rattle.tb_records.specs.declared.replies.Status.{Status}
use Rattle.tb_records.specs.declared.replies.Status.TheVariants.{Reply, NoSession, SessionTooLow, NewerSession, Older, Collision, NewerRequest, NotYet}

-- by rising number
unfoldable pub statuses : List Status
statuses =
    Reply
    ∷ NoSession
    ∷ SessionTooLow
    ∷ NewerSession
    ∷ Older
    ∷ Collision
    ∷ NewerRequest
    ∷ NotYet
    ∷ []

abbrev pub status_name : Status → List ℕ
status_name Reply = codes "Reply"
status_name NoSession = codes "NoSession"
status_name SessionTooLow = codes "SessionTooLow"
status_name NewerSession = codes "NewerSession"
status_name Older = codes "Older"
status_name Collision = codes "Collision"
status_name NewerRequest = codes "NewerRequest"
status_name NotYet = codes "NotYet"
