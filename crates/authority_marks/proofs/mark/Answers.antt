use mathlib.Core.Path.{sym, subst}
use mathlib.Core.List.{[], ◌∷◌}
use Rattle.authority_marks.specs.Marked.{Added}
use Rattle.authority_marks.proofs.MarkLaws.{Added-one}
use Rattle.authority_marks.proofs.mark.Goals as goal

pub returns : goal.returns
returns c = subst (Added c.args.work.now (c.args.v ∷ [])) (sym c.put_mark.ensures) (Added-one c.args.work.now c.args.v c.requires.0 c.requires.1)
