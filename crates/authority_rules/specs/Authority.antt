-- Holders and their authority (document 01, Who holds what; document 02, order 6). Stands on the states of the machine and on what
-- counts of them.
use Rattle.std.specs.Prelude.{ℕ, Bool, true, false, cond, ◌&&◌, ◌||◌, List, [], ◌∷◌, ◌++◌, eqb, ltb, length}
use Rattle.std.proofs.Math.Option.{Option, none, some}
use Rattle.lists.specs.Contains.{contains}
use Rattle.lists.specs.Passing.{passing}
use Rattle.sheet_rules.specs.declared.Kind.{Kind}
use Rattle.sheet_rules.specs.declared.Kind.TheVariants.{Pure, Resource}
use Rattle.sheet_rules.specs.Sheet.{Sheet, row_of_form}
use Rattle.machine_rules.specs.State.{Object, Frame, State, object_at}
use Rattle.authority_rules.specs.Counted.{Counting, usable}

-- main's number as a holder (Who holds what)
abbrev pub main_holder : ℕ
main_holder = 256

-- a kind is resource (Who holds what)
abbrev pub is_resource_kind : Kind → Bool
is_resource_kind Pure = false
is_resource_kind Resource = true

-- o is an object, and of a resource row (Who holds what)
unfoldable pub is_resource : Sheet → List Object → ℕ → Bool
is_resource s os o = ltb o (length os) && is_resource_kind (row_of_form s (object_at os o).form).kind

-- a holder is main or a resource object (Who holds what)
abbrev pub is_holder : Sheet → List Object → ℕ → Bool
is_holder s os h = eqb h main_holder || is_resource s os h

-- all frames of a state, from the top down (Who holds what)
abbrev pub frames : State → List Frame
frames σ = σ.top ∷ σ.below

-- whose a frame is, given the holder of the frame beneath: its receiver's if that is a resource; main's if it is main's;
-- a pure receiver's frame belongs to the holder beneath (Who holds what)
abbrev pub frame_holder : Sheet → List Object → Option ℕ → ℕ → ℕ
frame_holder s os none beneath = main_holder
frame_holder s os (some o) beneath = cond (is_resource s os o) o beneath

-- the holder of the first of some frames, the others lying beneath it (Who holds what)
unfoldable pub holder_of : Sheet → List Object → List Frame → ℕ
holder_of s os [] = main_holder
holder_of s os (f ∷ fs) = frame_holder s os f.own (holder_of s os fs)

-- the holder of the top frame (Who holds what)
abbrev pub top_holder : Sheet → State → ℕ
top_holder s σ = holder_of s σ.objects (frames σ)

-- what a frame adds to h's slots: those that count, if it belongs to h (Who holds what)
abbrev pub slots_if : Bool → List ℕ → List ℕ
slots_if true slots = slots
slots_if false slots = []

-- the slots that count of those frames that belong to h (Who holds what)
unfoldable pub slots_of : (Frame → List ℕ) → Sheet → List Object → ℕ → List Frame → List ℕ
slots_of count s os h [] = []
slots_of count s os h (f ∷ fs) = slots_if (eqb (holder_of s os (f ∷ fs)) h) (count f) ++ slots_of count s os h fs

-- of a state: the top frame's if it belongs to h, and those of the frames below it, which wait (Who holds what; order 6)
abbrev pub held_slots : Counting → Sheet → State → ℕ → List ℕ
held_slots c s σ h = slots_if (eqb (top_holder s σ) h) (c.top σ.top) ++ slots_of c.waiting s σ.objects h σ.below

-- what an object adds to its own authority as a holder: itself, its kept values that count and its fields (Who holds what)
abbrev pub own_values : Counting → Sheet → ℕ → Object → List ℕ
own_values c s h o = h ∷ (c.kept s o ++ o.fields)

-- what h can reach by a way of counting: main only the slots of its frames; a resource object also what is its own; any other number
-- nothing (Who holds what)
unfoldable pub reached_by : Counting → Sheet → State → ℕ → List ℕ
reached_by c s σ h =
    cond (eqb h main_holder) (held_slots c s σ h)
    (cond (is_resource s σ.objects h)
    (own_values c s h (object_at σ.objects h) ++ held_slots c s σ h)
    [])

-- h holds b by a way of counting: b is a resource object that h can reach (Who holds what)
unfoldable pub holds_by : Counting → Sheet → State → ℕ → ℕ → Bool
holds_by c s σ h b = is_resource s σ.objects b && contains (reached_by c s σ h) b

-- h holds b: by what can still be used (Who holds what; order 6)
abbrev pub holds : Sheet → State → ℕ → ℕ → Bool
holds = holds_by usable

-- a holder's authority, ascending (Who holds what)
unfoldable pub authority : Sheet → State → ℕ → List ℕ
authority s σ h = passing (holds s σ h) 0 (length σ.objects)
