-- What every state of an accepted sheet has (document 01, The machine; Fit and typing): objects and slots hold what their rows
-- say. SoundLaws proves it of every state after n steps. Stands on State and on typed sheets.
use Rattle.std.specs.Prelude.{ℕ, ◌+◌, ◌≤◌, ◌<◌, ◌≡◌, List, [], ◌∷◌, ◌++◌, T, length}
use Rattle.std.proofs.Math.Option.{Option, none, some}
use Rattle.lists.specs.Pairwise.{Pairwise}
use Rattle.sheet_rules.specs.declared.Member.{Member}
use Rattle.sheet_rules.specs.declared.Member.TheVariants.{Method, Field}
use Rattle.sheet_rules.specs.Limits.{keep_limit, body_limit, store_limit, stack_limit}
use Rattle.sheet_rules.specs.Sheet.{Sheet, form_at}
use Rattle.type_rules.specs.Fit.{fits}
use Rattle.type_rules.specs.SlotRows.{Own, members_at}
use Rattle.type_rules.specs.Typed.{CodeTyped}
use Rattle.machine_rules.specs.State.{Object, Frame, State, frame_count, object_at}

-- the row number of object o's form (The machine)
abbrev pub row_of_object : Sheet → List Object → ℕ → ℕ
row_of_object s os o = (form_at s (object_at os o).form).row

-- number o is an object, and the row of its form fits row a (The machine)
pub record Is (s : Sheet) (os : List Object) (o a : ℕ) : Type 0 where
  pub made : o < length os
  pub fit : T (fits s.rows (row_of_object s os o) a)

-- the rows of the fields among some members, in order (The machine)
unfoldable pub field_rows : List Member → List ℕ
field_rows [] = []
field_rows (Field n r ∷ ms) = r ∷ field_rows ms
field_rows (Method n a r ∷ ms) = field_rows ms

-- an object's form is there, and its kept values and fields are objects that fit the rows declared for them (The machine)
pub record SoundObject (s : Sheet) (os : List Object) (o : Object) : Type 0 where
  pub form : o.form < length s.forms
  pub kept : Pairwise (Is s os) o.kept (form_at s o.form).keeps
  pub fields : Pairwise (Is s os) o.fields (field_rows (members_at s (form_at s o.form).row))

-- a frame's receiver, the own row for which its code was typed, and the result that the code declares: main's frame has none of
-- the three, any other has all (The machine)
pub data Receives (s : Sheet) (os : List Object) : Option ℕ → Own → Option ℕ → Type 0 where
  main : Receives s os none none none
  object : {o a r : ℕ} → o < length os → a ≡ row_of_object s os o → Receives s os (some o) (some a) (some r)

-- a frame whose filled slots are objects that fit the given rows (The machine)
pub record SoundFrame (s : Sheet) (os : List Object) (f : Frame) (own : Own) (result : Option ℕ) (rows : List ℕ) : Type 0 where
  pub receives : Receives s os f.own own result
  pub slots : Pairwise (Is s os) f.slots rows

-- the most slots that a frame can have: the own object, the argument, the kept values, and one for each instruction of a body
-- (The machine)
abbrev pub slot_limit : ℕ
slot_limit = 2 + (keep_limit + body_limit)

-- the frames below a frame that declares the given result: none below main's; else the next one waits for a row r that the result
-- fits, the code that it has left is typed with the slot of row r filled, and there is room for that slot and the code's
-- (The machine)
pub data SoundBelow (s : Sheet) (os : List Object) : Option ℕ → List Frame → Type 0 where
  bottom : SoundBelow s os none []
  waits : {f : Frame} {fs : List Frame} {own : Own} {result : Option ℕ} {rows : List ℕ} {r' : ℕ} (r : ℕ) → SoundFrame s os f own result rows
      → CodeTyped s own result (rows ++ (r ∷ [])) f.code → length f.slots + length f.code < slot_limit → T (fits s.rows r' r)
      → SoundBelow s os result fs → SoundBelow s os (some r') (f ∷ fs)

-- a sound state: sound objects, a top frame whose code is typed after its slots' rows and has room for its slots, frames that
-- wait for what they will get, and no more objects and frames than there are places (The machine)
pub record Sound (s : Sheet) (σ : State) : Type 0 where
  pub store : (o : ℕ) → o < length σ.objects → SoundObject s σ.objects (object_at σ.objects o)
  pub own : Own
  pub result : Option ℕ
  pub rows : List ℕ
  pub top : SoundFrame s σ.objects σ.top own result rows
  pub code : CodeTyped s own result rows σ.top.code
  pub room : length σ.top.slots + length σ.top.code ≤ slot_limit
  pub below : SoundBelow s σ.objects result σ.below
  pub places : length σ.objects ≤ store_limit
  pub height : frame_count σ ≤ stack_limit
