-- What the authority's code stands on, in the work buffer, and what it promises of a frame. Stands on the rules' authority, on the
-- state that the buffer holds, and on marks.
use Rattle.std.specs.Prelude.{ℕ, suc, ◌≤◌, ◌<◌, ◌≡◌, Bool, cond, ◌&&◌, List, eqb, length, set}
use Rattle.lists.specs.PutAt.{begun}
use Rattle.lists.specs.Passing.{passing}
use Rattle.lists.specs.AtPlaces.{at_places}
use Rattle.machine_rules.specs.declared.Tally.{Tally}
use Rattle.authority_rules.specs.Counted.{is_last, top_slots, waiting_slots}
use Rattle.authority_rules.specs.Authority.{is_resource, frame_holder, slots_if, holder_of, slots_of}
use Rattle.table.specs.Layout.{object_address, kept_address, field_address, slot_address}
use Rattle.table.specs.View.{cell, sheet_in}
use Rattle.table.specs.Whole.{Whole}
use Rattle.machine_state.specs.declared.Top.{Top}
use Rattle.machine_state.specs.Held.{kept_count, field_count, objects_in, slots_in, own_from, frame_from, top_in, below_in}
use Rattle.machine_steps.specs.Running.{Running}
use Rattle.slot_notes.specs.Noted.{FormsNoted}
use Rattle.authority_marks.specs.Marked.{is_marked, Added}

-- a run, with the slots noted that each form's bodies name
pub record Prepared (w : List ℕ) (t : Top) (k : Tally) : Type 0 where
  pub running : Running w t k
  pub noted : FormsNoted w

-- n objects, of forms that are there
pub record Stored (w : List ℕ) (n : ℕ) : Type 0 where
  pub whole : Whole w
  pub few : n ≤ 256
  pub forms : (o : ℕ) → o < n → cell w (object_address o) < length (sheet_in w).forms

-- the first n slots of frame f are in range, and so is what they hold
pub record Slots (w : List ℕ) (f n : ℕ) : Type 0 where
  pub few : n ≤ 42
  pub small : (v : ℕ) → v < n → cell w (slot_address f v) < 256

-- whose frame f is, where it stands so, and its slots that count while it waits marked if it is h's
pub record FrameMarked (w : List ℕ) (n f : ℕ) (t : Top) (beneath h : ℕ) (w' : List ℕ) (r : ℕ) : Type 0 where
  pub holder : r ≡ frame_holder (sheet_in w) (objects_in (sheet_in w) w n) (own_from t.own) beneath
  pub marked : Added w (slots_if (eqb r h) (waiting_slots (frame_from w f t))) w'

-- the last slot of frame f on top, where it stands so, once it is filled
abbrev pub last_slot : List ℕ → ℕ → Top → List ℕ
last_slot w f t = at_places (is_last (frame_from w f t)) (slots_in w f t.filled)

-- the slots of frame f that count on top marked, if it is h's
abbrev pub TopMarked : (w : List ℕ) (n f : ℕ) (t : Top) (beneath h : ℕ) (w' : List ℕ) → Type 0
TopMarked w n f t beneath h w' =
    Added w (slots_if (eqb (frame_holder (sheet_in w) (objects_in (sheet_in w) w n) (own_from t.own) beneath) h) (top_slots (frame_from w f t))) w'

-- the filled slots of the first d frames are in range, and so is what they hold
abbrev pub Below : List ℕ → ℕ → Type 0
Below w d = (f : ℕ) → f < d → Slots w f (top_in w f).filled

-- whose the last of the first d frames is, and the slots that count of h's frames among them, all waiting, marked
pub record BelowMarked (w : List ℕ) (n h d : ℕ) (w' : List ℕ) (r : ℕ) : Type 0 where
  pub holder : r ≡ holder_of (sheet_in w) (objects_in (sheet_in w) w n) (below_in w d)
  pub marked : Added w (slots_of waiting_slots (sheet_in w) (objects_in (sheet_in w) w n) h (below_in w d)) w'

-- what object o keeps and what its fields hold is in range
pub record OwnSmall (w : List ℕ) (o : ℕ) : Type 0 where
  pub kept : (i : ℕ) → i < kept_count (sheet_in w) (cell w (object_address o)) → cell w (kept_address o i) < 256
  pub fields : (i : ℕ) → i < field_count (sheet_in w) (cell w (object_address o)) → cell w (field_address o i) < 256

-- b is marked and a resource object, among n objects
abbrev pub is_reached : List ℕ → ℕ → ℕ → Bool
is_reached w n b = is_marked w b && is_resource (sheet_in w) (objects_in (sheet_in w) w n) b

-- b written after the numbers that a result buffer begins with, if a test says so; r tells how many there are then
pub record Kept (test : Bool) (b count : ℕ) (result result' : List ℕ) (r : ℕ) : Type 0 where
  pub counted : r ≡ cond test (suc count) count
  pub left : result' ≡ cond test (set result count b) result

-- the numbers below n that pass a test, ascending, at the result buffer's start; r tells how many they are
pub record Written (test : ℕ → Bool) (n : ℕ) (result result' : List ℕ) (r : ℕ) : Type 0 where
  pub counted : r ≡ length (passing test 0 n)
  pub left : result' ≡ begun (passing test 0 n) result
