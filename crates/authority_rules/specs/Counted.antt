-- Which slots of a frame, and which kept values of an object, count: those that some code can still use (document 02, order 6).
-- Stands on the states of the machine.
use Rattle.std.specs.Prelude.{ℕ, suc, ◌+◌, Bool, ◌||◌, List, eqb, length}
use Rattle.lists.specs.AtPlaces.{at_places}
use Rattle.sheet_rules.specs.Sheet.{Sheet, code_names, form_names, form_at}
use Rattle.machine_rules.specs.State.{Object, Frame}

-- slot v is the last one of the top frame's code: the one that its last instruction fills (order 6)
abbrev pub is_last : Frame → ℕ → Bool
is_last f v = eqb (suc v) (length f.slots + length f.code)

-- of the top frame: the filled slots that an instruction not yet taken names, and, once it is filled, the last one: a body returns
-- it, and main ends with it (order 6)
abbrev pub top_slots : Frame → List ℕ
top_slots f = at_places (λ v. code_names f.code v || is_last f v) f.slots

-- of a frame that waits for a return: the filled slots that an instruction not yet taken names. The call that waits is taken, and
-- the last slot is not filled before it returns (order 6)
abbrev pub waiting_slots : Frame → List ℕ
waiting_slots f = at_places (code_names f.code) f.slots

-- of an object's kept values: those whose slot some body of its form names; kept value i is slot 2 + i (order 6)
abbrev pub named_kept : Sheet → Object → List ℕ
named_kept s o = at_places (λ i. form_names (form_at s o.form) (2 + i)) o.kept

-- a way of counting: which slots of the top frame, which of a frame that waits, and which kept values (order 6)
pub record Counting : Type 0 where
  pub top : Frame → List ℕ
  pub waiting : Frame → List ℕ
  pub kept : Sheet → Object → List ℕ

-- what can still be used (order 6)
abbrev pub usable : Counting
usable = record { top = top_slots; waiting = waiting_slots; kept = named_kept }
