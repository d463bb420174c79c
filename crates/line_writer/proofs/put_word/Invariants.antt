use Rattle.std.proofs.Common.{◌≤◌, length, take}
use Rattle.line_writer.specs.Put.{Put}
use Rattle.line_writer.proofs.put_word.Given as goal

abbrev pub invariant-loop-byte : goal.invariant-loop-byte
invariant-loop-byte l = (l.byte-index ≤ length l.word) × Put l.byte-index l.at (take l.byte-index l.word) l.initial.out l.out l.next
