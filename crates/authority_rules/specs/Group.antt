-- A group of holders: what its members hold together, which list is one, and what the question about a list answers, its buffers
-- left aside (document 02, order 1). Stands on Authority and on AuthorityQuestion.
use Rattle.std.specs.Prelude.{ℕ, Bool, cond, ◌&&◌, List, leb, length}
use Rattle.lists.specs.AnyAll.{any, all}
use Rattle.lists.specs.Passing.{passing}
use Rattle.sheet_rules.specs.declared.Reason.TheVariants.{NoHolder}
use Rattle.sheet_rules.specs.Sheet.{Sheet}
use Rattle.sheet_rules.specs.Reading.{meaning}
use Rattle.type_rules.specs.Typing.{typing, accepted_on}
use Rattle.machine_rules.specs.State.{Object, State}
use Rattle.machine_rules.specs.Steps.{run}
use Rattle.authority_rules.specs.Authority.{is_holder, holds}
use Rattle.authority_rules.specs.AuthorityQuestion.{Held, held, not_held}

-- a group holds b when some member holds it (order 1)
unfoldable pub group_holds : Sheet → State → List ℕ → ℕ → Bool
group_holds s σ hs b = any (λ h. holds s σ h b) hs

-- a group's authority: the sets of its members joined, ascending (order 1)
unfoldable pub group_authority : Sheet → State → List ℕ → List ℕ
group_authority s σ hs = passing (group_holds s σ hs) 0 (length σ.objects)

-- a list has at most 16 numbers, repeats included (order 1)
abbrev pub group_limit : ℕ
group_limit = 16

-- a list is a group when it keeps the limit and every number on it is a holder; an empty one is a group (order 1)
abbrev pub is_group : Sheet → List Object → List ℕ → Bool
is_group s os hs = leb (length hs) group_limit && all (is_holder s os) hs

-- after the run: a list that is no group is refused (order 1; document 01, Turned away, 11)
abbrev pub group_in : Sheet → State → List ℕ → Held
group_in s σ hs = cond (is_group s σ.objects hs) (held (group_authority s σ hs)) (not_held NoHolder 0)

-- the authority of a group in the state that the run of a text within a budget leaves; only an accepted sheet is run (order 1)
unfoldable pub group_held : List ℕ → ℕ → List ℕ → Held
group_held text budget hs = accepted_on typing not_held (λ s. group_in s (run s budget).last hs) (meaning text)
