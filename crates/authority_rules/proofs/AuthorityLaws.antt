-- Laws of authority: its list is ascending without repeats, and has exactly the resources that the holder holds.
-- Assumes nothing.
use Prim.Native.Nat.{ℕ, ◌<◌}
use mathlib.Core.Path.{◌≡◌}
use mathlib.Core.List.{List}
use lib.Dec.{T, ltb, ltb→lt}
use lib.ListN.{length}
use Rattle.lists.specs.Contains.{contains}
use Rattle.lists.proofs.PassingLaws.{Ascending, passing-Ascending, passing_exactly}
use Rattle.lists.proofs.Tests.{and_left}
use Rattle.sheet_rules.specs.Sheet.{Sheet}
use Rattle.machine_rules.specs.State.{Object, State}
use Rattle.authority_rules.specs.Counted.{usable}
use Rattle.authority_rules.specs.Authority.{is_resource, reached_by, holds_by, holds, authority}

-- the numbers of an authority ascend, and none stands twice
pub authority-Ascending : (s : Sheet) (σ : State) (h : ℕ) → Ascending 0 (authority s σ h)
unfolding authority
authority-Ascending s σ h = passing-Ascending (holds s σ h) 0 (length σ.objects)

-- a resource is an object
pub resource_below : (s : Sheet) (os : List Object) (b : ℕ) → T (is_resource s os b) → b < length os
unfolding is_resource
resource_below s os b t = ltb→lt b (length os) (and_left (ltb b (length os)) _ t)

-- what is held is an object
pub held_below : (s : Sheet) (σ : State) (h b : ℕ) → T (holds s σ h b) → b < length σ.objects
unfolding holds_by
held_below s σ h b t = resource_below s σ.objects b (and_left (is_resource s σ.objects b) (contains (reached_by usable s σ h) b) t)

-- a number is in a holder's authority exactly when the holder holds it
pub authority-holds : (s : Sheet) (σ : State) (h b : ℕ) → contains (authority s σ h) b ≡ holds s σ h b
unfolding authority
authority-holds s σ h b = passing_exactly (holds s σ h) (length σ.objects) b (held_below s σ h b)
