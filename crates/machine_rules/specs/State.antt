-- The states of the machine (document 01, The machine; The sheet, slots; document 02, order 7). Stands on the sheet.
use Rattle.std.specs.Prelude.{ℕ, suc, List, [], ◌∷◌, ◌++◌, map, length, get_or}
use Rattle.std.proofs.Math.Option.{Option, none}
use Rattle.lists.specs.Tab.{tab}
use Rattle.sheet_rules.specs.Sheet.{Instr, Part, init, body, Sheet, form_at}

-- an object: its form, its kept values, and the values of its row's fields in the row's order (The machine)
pub record Object : Type 0 where
  pub form : ℕ
  pub kept : List ℕ
  pub fields : List ℕ

-- a frame: its receiver (main's has none), its filled slots, and the instructions not yet taken (The machine)
pub record Frame : Type 0 where
  pub own : Option ℕ
  pub slots : List ℕ
  pub code : List Instr

-- a state: the objects, numbered from 0, devices first and then in order of creation, and never removed; the top frame; and those
-- below it (The machine; document 02, order 7)
pub record State : Type 0 where
  pub objects : List Object
  pub top : Frame
  pub below : List Frame

-- how many frames a state has (The machine)
abbrev pub frame_count : State → ℕ
frame_count σ = suc (length σ.below)

-- what a look-up gives for a number that no object has; typing keeps such numbers away (The machine)
abbrev pub no_object : Object
no_object = record { form = 0; kept = []; fields = [] }

-- the object of a number (The machine)
abbrev pub object_at : List Object → ℕ → Object
object_at os o = get_or os o no_object

-- the fields that an object starts with: for each `init` of its form, in order, the kept value that it names (The machine)
unfoldable pub initial_fields : List Part → List ℕ → List ℕ
initial_fields [] kept = []
initial_fields (init k ∷ ps) kept = get_or kept k 0 ∷ initial_fields ps kept
initial_fields (body is ∷ ps) kept = initial_fields ps kept

-- a new object of form f with its kept values (The machine)
abbrev pub made : Sheet → ℕ → List ℕ → Object
made s f kept = record { form = f; kept = kept; fields = initial_fields (form_at s f).parts kept }

-- the start: an object for each device, which keeps no value, and main's frame with their numbers in its first slots; without devices
-- there is no object, and no slot is filled (The machine; document 02, order 7)
abbrev pub start : Sheet → State
start s =
    record {
      objects = map (λ f. made s f []) s.devices;
      top = record { own = none; slots = tab (λ i. i) (length s.devices); code = s.main };
      below = [];
    }

-- the last of some slots: a body's value (The machine)
unfoldable pub last_of : List ℕ → ℕ
last_of [] = 0
last_of (v ∷ []) = v
last_of (v ∷ w ∷ ws) = last_of (w ∷ ws)

-- a frame with its next slot filled (The machine)
abbrev pub filled : Frame → ℕ → Frame
filled f v = record { own = f.own; slots = f.slots ++ (v ∷ []); code = f.code }

-- a frame with its next instruction taken (The machine)
abbrev pub past : Frame → List Instr → Frame
past f is = record { own = f.own; slots = f.slots; code = is }
