-- Examples of a day, that of clause 11.9 among them, computed. Assumes nothing.
use mathlib.Core.Path.{refl}
use Rattle.octets.specs.Field.{field}
use Rattle.octets.specs.Fields.{bytes_of}
use Rattle.octets.specs.Number.{from_le, to_le, digits}
use Rattle.octets.specs.Part.{splice}
use Rattle.octets.specs.Same.{same_bytes, place, one_of, look_up}
use Rattle.octets.specs.Search.{first_from, all_from}
use Rattle.octets.specs.Text.{text}
use Rattle.message.specs.Layout.{u16_at, entry_right, layout_right}
use Rattle.message.specs.Values.{entries, entry_from, end_of, value_at, value}
use Rattle.actions.specs.Actions.{action_of}
use Rattle.elements.specs.Messages.{known, how_many, most_entries, has_layout}
use Rattle.notional.specs.Masking.{is_cap}
use Rattle.notional.specs.Rounding.{bands, step_in, step, nearest, rounded}
use Rattle.rules.specs.Findings.{lowest, first_broken}
use Rattle.rules.specs.Rules.{rules_of, rules_for}
use Rattle.ledger.specs.Totals.{total_in, totals_in, sum_of}
use Rattle.ledger.specs.Header.{rows_in_use, first_row, next_identifier, caps_in, size_of_rows, capacity_in, cap_for, are_caps, capacity_for, header_right, new_header}
use Rattle.submission.specs.Opening.{opening_rules, opening_verdict, opened}
use Rattle.submission.specs.Submission.{submission_rules, verdict_on, submitted}
use Rattle.day.specs.Frame.{frame_of}
use Rattle.day.specs.Report.{digits_from, digit_count, decimal, line, heading, report_line, last_line}
use Rattle.dayrun.specs.Day as day
use Rattle.dayrun.specs.Blocks.{Examples}

pub examples : Examples
unfolding
    field bytes_of from_le to_le digits splice same_bytes place one_of look_up first_from all_from text u16_at entry_right layout_right entries entry_from end_of value_at value action_of known how_many most_entries has_layout is_cap bands step_in step nearest rounded lowest first_broken rules_of rules_for total_in totals_in sum_of rows_in_use first_row next_identifier caps_in size_of_rows capacity_in cap_for are_caps capacity_for header_right new_header opening_rules opening_verdict opened submission_rules verdict_on submitted frame_of digits_from digit_count decimal line heading report_line last_line day.lines_of day.step day.report_from day.day_report
examples = (refl, refl, refl, refl, refl)
