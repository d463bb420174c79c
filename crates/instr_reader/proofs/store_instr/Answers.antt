use native.Mathlib.Omega.{arith}
use Rattle.std.proofs.Common.{rules}
use mathlib.Core.Path.{◌≡◌}
use lib.ListN.{length}
use Rattle.instr_reader.proofs.StoreLaws.{stored_all}
use Rattle.instr_reader.proofs.store_instr.Goals as goal

pub returns : goal.returns
returns c =
    let nine : length c.args.numbers.values ≡ 9 = search rules in
    stored_all c.args.operation c.args.numbers.count c.requires.0 c.requires.1 nine c.put_operation.ensures c.loop-k-test.false (omega arith) c.loop-k.invariant
