-- One name for all definitions of this crate's rules, and those below, that stay shut until they are named: a case that is
-- computed from the rules names it alone. Proves nothing.
use Rattle.sheet_rules.specs.Sheet.{size_of_parts, size_of_forms}
use Rattle.sheet_rules.specs.Keys.{bytes, same_bytes, place_among}
use Rattle.sheet_rules.specs.Lines.{split_on, all_digits, value_from, is_decimal, all_decimals, values, numbered, keyed, line_of, finished, lines_of}
use Rattle.sheet_rules.specs.Reader.{demand, and_then, settle, one, many, count_line, existing_line}
use Rattle.sheet_rules.specs.RowLines.{same_members, twin, row_line, ascends, member_line, read_row}
use Rattle.sheet_rules.specs.FormLines.{form_line, body_line, all_below, instr_line, read_instrs, read_part, read_form}
use Rattle.sheet_rules.specs.DeviceLines.{read_device_lines, read_devices}
use Rattle.sheet_rules.specs.Reading.{read_end, read_sheet, meaning}
use Rattle.sheet_rules.specs.Samples.{text_of}

unfoldable pub reading : Unit {0}
unfolding size_of_parts size_of_forms bytes same_bytes place_among split_on all_digits value_from is_decimal all_decimals values numbered keyed line_of finished lines_of demand and_then settle one many count_line existing_line same_members twin row_line ascends member_line read_row form_line body_line all_below instr_line read_instrs read_part read_form read_device_lines read_devices read_end read_sheet meaning text_of
reading = tt
