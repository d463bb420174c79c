use mathlib.Core.Path.{refl}
use Rattle.instr_typing.specs.Told.{row_found}
use Rattle.instr_typing.proofs.FindLaws.{first_finds, field_finds}
use Rattle.instr_typing.proofs.field_in.Goals as goal

pub returns : goal.returns
returns c = first_finds c.find_member.ensures (field_finds c.args.name) row_found (λ m r p. p.1) refl (λ x. (x, refl))
