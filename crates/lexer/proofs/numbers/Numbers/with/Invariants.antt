use Rattle.std.proofs.Common.{◌≡◌, cond, ltb, set}
use Rattle.lexer.proofs.numbers.Numbers.with.Given as goal

abbrev pub invariant-loop-i : goal.invariant-loop-i
invariant-loop-i l = l.values ≡ cond (ltb l.fn.self.count l.i) (set l.fn.self.values l.fn.self.count l.fn.v) l.fn.self.values
