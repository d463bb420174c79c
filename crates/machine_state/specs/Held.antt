-- The machine's state that the work buffer holds: a function of its numbers, of where the top frame stands, and of the tally.
-- Stands on the table's layout and view, and on the machine's states.
use Rattle.std.specs.Prelude.{ℕ, zero, suc, pred, ◌+◌, ◌-◌, List, [], ◌∷◌, length, set}
use Rattle.std.proofs.Math.Option.{Option, none, some}
use Rattle.lists.specs.Tab.{tab}
use Rattle.sheet_rules.specs.Sheet.{Sheet, form_at, row_of_form}
use Rattle.machine_rules.specs.State.{Object, Frame, State}
use Rattle.machine_rules.specs.Sound.{field_rows}
use Rattle.machine_rules.specs.declared.Tally.{Tally}
use Rattle.table.specs.Layout.{object_address, kept_address, field_address, frame_address, slot_address, filled_address, next_address, end_address}
use Rattle.table.specs.View.{cell, instrs_in}
use Rattle.machine_state.specs.declared.Top.{Top}

-- how many values an object of form f keeps, and how many fields it has
abbrev pub kept_count : Sheet → ℕ → ℕ
kept_count s f = length (form_at s f).keeps

abbrev pub field_count : Sheet → ℕ → ℕ
field_count s f = length (field_rows (row_of_form s f).members)

-- object o
unfoldable pub object_in : Sheet → List ℕ → ℕ → Object
object_in s w o =
    record {
      form = cell w (object_address o);
      kept = tab (λ i. cell w (kept_address o i)) (kept_count s (cell w (object_address o)));
      fields = tab (λ i. cell w (field_address o i)) (field_count s (cell w (object_address o)));
    }

-- the first n objects
abbrev pub objects_in : Sheet → List ℕ → ℕ → List Object
objects_in s w n = tab (object_in s w) n

-- a frame's receiver, from its number plus one
abbrev pub own_from : ℕ → Option ℕ
own_from zero = none
own_from (suc o) = some o

-- the first n slots of frame f
abbrev pub slots_in : List ℕ → ℕ → ℕ → List ℕ
slots_in w f n = tab (λ v. cell w (slot_address f v)) n

-- frame f, where it stands so
abbrev pub frame_from : List ℕ → ℕ → Top → Frame
frame_from w f t = record { own = own_from t.own; slots = slots_in w f t.filled; code = instrs_in w t.next (t.end - t.next) }

-- where frame f stood when it was kept
abbrev pub top_in : List ℕ → ℕ → Top
top_in w f =
    record {
      own = cell w (frame_address f);
      filled = cell w (filled_address f);
      next = cell w (next_address f);
      end = cell w (end_address f);
    }

-- the frame in hand, with its next instruction taken; and with one slot more as well
abbrev pub past : Top → Top
past t = record { own = t.own; filled = t.filled; next = t.next + 1; end = t.end }

abbrev pub filled : Top → Top
filled t = record { own = t.own; filled = t.filled + 1; next = t.next; end = t.end }

-- the frames below frame f, the next one first
unfoldable pub below_in : List ℕ → ℕ → List Frame
below_in w zero = []
below_in w (suc f) = frame_from w f (top_in w f) ∷ below_in w f

-- the state
abbrev pub state_in : Sheet → List ℕ → Top → Tally → State
state_in s w t k =
    record { objects = objects_in s w k.objects; top = frame_from w (pred k.frames) t; below = below_in w (pred k.frames) }

-- the buffer after frame f is kept
unfoldable pub saved_put : List ℕ → ℕ → Top → List ℕ
saved_put w f t =
    set (set (set (set w (frame_address f) t.own) (filled_address f) t.filled) (next_address f) t.next) (end_address f) t.end
