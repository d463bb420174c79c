-- The next step of a state (document 01, The machine): a clause for each instruction, and the return. Stands on State.
use Rattle.std.specs.Prelude.{ℕ, suc, cond, List, [], ◌∷◌, ◌++◌, map, eqb, ltb, length, get_or, set}
use Rattle.std.proofs.Math.Option.{Option, none, some}
use Rattle.sheet_rules.specs.declared.Member.{Member}
use Rattle.sheet_rules.specs.declared.Member.TheVariants.{Method, Field}
use Rattle.sheet_rules.specs.Limits.{store_limit, stack_limit}
use Rattle.sheet_rules.specs.Sheet.{Instr, new, call, get, put, copy, Part, init, body, Sheet, form_at, row_of_form}
use Rattle.machine_rules.specs.State.{Object, Frame, State, frame_count, object_at, made, last_of, filled, past}

-- what a step does that can move authority: it makes object c with kept values; calls a receiver with an argument; returns a
-- value; or none of these (The machine)
pub data Action : Type 0 where
  creates : ℕ → List ℕ → Action
  calls : ℕ → ℕ → Action
  returns : ℕ → Action
  works : Action

-- what comes next: the end, with main's value; a step that can be taken; one that a full store or a full stack stops; or none,
-- a call or field that the object's form lacks, which typing excludes (The machine)
pub data Next : Type 0 where
  finished : ℕ → Next
  step : Action → State → Next
  store_full : Next
  stack_full : Next
  lacking : Next

-- the body of method n, among a row's members and the form's parts for them (The machine)
unfoldable pub body_in : List Member → List Part → ℕ → Option (List Instr)
body_in [] ps n = none
body_in (m ∷ ms) [] n = none
body_in (Method m a r ∷ ms) (body is ∷ ps) n = cond (eqb m n) (some is) (body_in ms ps n)
body_in (Method m a r ∷ ms) (init k ∷ ps) n = body_in ms ps n
body_in (Field m r ∷ ms) (p ∷ ps) n = body_in ms ps n

-- one place further, if there is one (The machine)
abbrev pub next_place : Option ℕ → Option ℕ
next_place none = none
next_place (some i) = some (suc i)

-- the place of field n among a row's fields (The machine)
unfoldable pub field_place : List Member → ℕ → Option ℕ
field_place [] n = none
field_place (Field m r ∷ ms) n = cond (eqb m n) (some 0) (next_place (field_place ms n))
field_place (Method m a r ∷ ms) n = field_place ms n

-- the members of an object's row (The machine)
abbrev pub members_of : Sheet → Object → List Member
members_of s o = (row_of_form s o.form).members

-- the values of some slots (The machine)
abbrev pub slot_values : List ℕ → List ℕ → List ℕ
slot_values slots ss = map (λ v. get_or slots v 0) ss

-- the top frame moves on with one slot more, among the given objects (The machine)
abbrev pub moved_on : List Object → State → List Instr → ℕ → State
moved_on os σ is v = record { objects = os; top = filled (past σ.top is) v; below = σ.below }

-- a new object gets the next number, which fills the slot (The machine)
abbrev pub with_new : Sheet → State → List Instr → ℕ → List ℕ → State
with_new s σ is f kept = moved_on (σ.objects ++ (made s f kept ∷ [])) σ is (length σ.objects)

-- `new`: the store has 256 places (The machine)
abbrev pub new_step : Sheet → State → List Instr → ℕ → List ℕ → Next
new_step s σ is f kept =
    cond (ltb (length σ.objects) store_limit) (step (creates (length σ.objects) kept) (with_new s σ is f kept)) store_full

-- a frame for a body: slot 0 is the own object, slot 1 the argument, then the kept values in order (The machine)
abbrev pub entered : State → List Instr → ℕ → ℕ → List Instr → State
entered σ is receiver argument code =
    record {
      objects = σ.objects;
      top = record { own = some receiver; slots = receiver ∷ argument ∷ (object_at σ.objects receiver).kept; code = code };
      below = past σ.top is ∷ σ.below;
    }

-- a call of a body that was found; a form that lacks it has no step (The machine)
abbrev pub called_step : State → List Instr → ℕ → ℕ → Option (List Instr) → Next
called_step σ is receiver argument none = lacking
called_step σ is receiver argument (some code) = step (calls receiver argument) (entered σ is receiver argument code)

-- `call`: a frame more, and no slot filled until its return; the stack has 64 frames (The machine)
abbrev pub call_step : Sheet → State → List Instr → ℕ → ℕ → ℕ → Next
call_step s σ is receiver n argument =
    cond (ltb (frame_count σ) stack_limit)
    (called_step σ is receiver argument
    (body_in (members_of s (object_at σ.objects receiver)) (form_at s (object_at σ.objects receiver).form).parts n))
    stack_full

-- a field read at the place that was found (The machine)
abbrev pub got_step : State → List Instr → ℕ → Option ℕ → Next
got_step σ is o none = lacking
got_step σ is o (some i) = step works (moved_on σ.objects σ is (get_or (object_at σ.objects o).fields i 0))

-- `get`: the own object's field; main has no own object (The machine)
abbrev pub get_step : Sheet → State → List Instr → Option ℕ → ℕ → Next
get_step s σ is none n = lacking
get_step s σ is (some o) n = got_step σ is o (field_place (members_of s (object_at σ.objects o)) n)

-- an object with the field at a place changed (The machine)
abbrev pub with_field : Object → ℕ → ℕ → Object
with_field o i v = record { form = o.form; kept = o.kept; fields = set o.fields i v }

-- a field set at the place that was found (The machine)
abbrev pub has_put_step : State → List Instr → ℕ → ℕ → Option ℕ → Next
has_put_step σ is o v none = lacking
has_put_step σ is o v (some i) = step works (moved_on (set σ.objects o (with_field (object_at σ.objects o) i v)) σ is v)

-- `put`: the own object's field becomes the value, which also fills the slot (The machine)
abbrev pub put_step : Sheet → State → List Instr → Option ℕ → ℕ → ℕ → Next
put_step s σ is none n v = lacking
put_step s σ is (some o) n v = has_put_step σ is o v (field_place (members_of s (object_at σ.objects o)) n)

-- the step of an instruction, with those after it (The machine)
unfoldable pub instr_step : Sheet → State → Instr → List Instr → Next
instr_step s σ (new f ss) is = new_step s σ is f (slot_values σ.top.slots ss)
instr_step s σ (call o n a) is = call_step s σ is (get_or σ.top.slots o 0) n (get_or σ.top.slots a 0)
instr_step s σ (get n) is = get_step s σ is σ.top.own n
instr_step s σ (put n v) is = put_step s σ is σ.top.own n (get_or σ.top.slots v 0)
instr_step s σ (copy v) is = step works (moved_on σ.objects σ is (get_or σ.top.slots v 0))

-- no instruction left: a return, which fills the calling frame's next slot; or, with no frame beneath, the end (The machine)
unfoldable pub return_step : State → List Frame → Next
return_step σ [] = finished (last_of σ.top.slots)
return_step σ (f ∷ fs) =
    step (returns (last_of σ.top.slots)) (record { objects = σ.objects; top = filled f (last_of σ.top.slots); below = fs })

-- the step of what is left of the top frame's code (The machine)
unfoldable pub code_step : Sheet → State → List Instr → Next
code_step s σ [] = return_step σ σ.below
code_step s σ (i ∷ is) = instr_step s σ i is

-- what comes next in a state (The machine)
unfoldable pub next_step : Sheet → State → Next
next_step s σ = code_step s σ σ.top.code
