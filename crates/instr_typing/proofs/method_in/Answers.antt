use mathlib.Core.Path.{refl}
use Rattle.instr_typing.specs.Told.{method_found}
use Rattle.instr_typing.proofs.FindLaws.{first_finds, method_finds}
use Rattle.instr_typing.proofs.method_in.Goals as goal

pub returns : goal.returns
returns c = first_finds c.find_member.ensures (method_finds c.args.name) method_found (λ m r p. p.1) refl (λ x. (record { argument = x.argument; result = x.result }, refl))
