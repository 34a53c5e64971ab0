-- What a run, a dump and a replay share: items are read and taken one after another, each by a step, until the input ends or a fault occurs.
use Rattle.std.specs.Prelude.{ℕ, Bool, true, false, ◌≡◌, ◌⊎◌, List, Option, Some, None, Result, Ok, Err}
use Rattle.tb_records.specs.Transport.{Input, Output, Sent}
use Rattle.tb_machine.specs.Histories.{State}

-- items that were taken: how many they are, the state after them, and the faults that do not come from an item
pub record ItemsTaken (Items Fault : Type 0) : Type 1 where
  pub count : Items → ℕ
  pub state : Items → State
  pub Halts : Fault → Items → Type 0

abbrev pub items_taken : {Items Fault : Type 0} → (Items → ℕ) → (Items → State) → (Fault → Items → Type 0) → ItemsTaken Items Fault
items_taken count state Halts = record { count = count; state = state; Halts = Halts }

-- given the reader's results, and the step that takes an item
module _ {Item Fault : Type 0}
    (Answered : Result (Option Item) Fault → Input → Input → Type 0)
    (Acts : Result (Unit {0}) Fault → State → State → Item → Output → Output → Type 0) where
  -- the next item was read, and taken
  pub record Next (result : Result (Unit {0}) Fault) (S T : State) (before after : Input) (start written : Output) : Type 0 where
    pub item : Item
    pub read : Answered (Ok (Some item)) before after
    pub act : Acts result S T item start written

  -- there was no item to take, and nothing was written
  pub record Untaken (answer : Result (Option Item) Fault) (before after : Input) (start written : Output) : Type 0 where
    pub read : Answered answer before after
    pub silent : written ≡ start

  -- the next item was taken, or there is no next item, or a fault occurred in reading it or in taking it
  abbrev pub GoesOn : Result Bool Fault → State → State → Input → Input → Output → Output → Type 0
  GoesOn (Ok true) S T before after start written = Next (Ok tt) S T before after start written
  GoesOn (Ok false) S T before after start written = (T ≡ S) × Untaken (Ok None) before after start written
  GoesOn (Err f) S T before after start written = Untaken (Err f) before after start written ⊎ Next (Err f) S T before after start written

  -- what ended it after the items: the end of the input, a fault of the next item, or a fault that does not come from an item; the T of a fault has
  -- no meaning
  abbrev pub EndsBy : {Items : Type 0} → ItemsTaken Items Fault → Result ℕ Fault → Items → Input → Input → Output → Output → Type 0
  EndsBy counted (Ok n) items before after start written = (counted.count items ≡ n) × Untaken (Ok None) before after start written
  EndsBy counted (Err f) items before after start written =
      ((T : State) × GoesOn (Err f) (counted.state items) T before after start written)
      ⊎ (counted.Halts f items × (after ≡ before) × (written ≡ start))

-- the items were read, and exactly what they give was written
pub record Done {Items : Type 0} (Read : Items → Input → Input → Type 0) (Gives : Items → List ℕ → Type 0) (items : Items) (before after : Input) (start written : Output) : Type 0 where
  pub bytes : List ℕ
  pub read : Read items before after
  pub gives : Gives items bytes
  pub sent : Sent bytes start written

-- some items were taken one after another, and then the input ended, or a fault occurred
pub record Worked {Items R : Type 0} (Read : Items → Input → Input → Type 0) (Gives : Items → List ℕ → Type 0)
    (Ended : R → Items → Input → Input → Output → Output → Type 0) (result : R) (before after : Input) (start written : Output) : Type 0 where
  pub items : Items
  pub middle : Input
  pub made : Output
  pub done : Done Read Gives items before middle start made
  pub ended : Ended result items middle after made written
