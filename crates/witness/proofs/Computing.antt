-- What opening, judging, masking and writing compute with. To unfold a definition is to unfold all that its line names. Assumes nothing.
use Rattle.octets.specs.Field.{field}
use Rattle.octets.specs.Fields.{bytes_of}
use Rattle.octets.specs.Number.{from_le, to_le, digits}
use Rattle.octets.specs.Part.{splice}
use Rattle.octets.specs.Same.{same_bytes, place, one_of, look_up}
use Rattle.octets.specs.Search.{first_from, all_from}
use Rattle.octets.specs.Text.{text}
use Rattle.values.specs.Code.{is_true, is_false, is_truth, is_cleared, is_allocation, is_price_notation, is_spread_notation, is_asset_class}
use Rattle.values.specs.Lei.{weight, number, grow, spell, is_lei}
use Rattle.values.specs.Run.{run_of}
use Rattle.iso.specs.Codes.{is_currency, is_location}
use Rattle.iso.specs.Lists.{iso4217, iso3166}
use Rattle.numbers.specs.Numbers.{point_in, whole_of, decimals_of, is_number, unsigned_of, is_price}
use Rattle.dates.specs.Dates.{fits_pattern, two_digits, leap, days_in, gregorian, names_date, is_date, is_time, before}
use Rattle.message.specs.Layout.{u16_at, entry_right, layout_right}
use Rattle.message.specs.Values.{entries as whole_entries, entry_from, end_of, value_at, value, is_there}
use Rattle.actions.specs.Actions.{action_of}
use Rattle.actions.specs.Matrix.{tick, pair_allowed}
use Rattle.elements.specs.Conditions.{is_package, value_is, is_quoted, quote_of, facts_of, is_due, kept}
use Rattle.elements.specs.Forms.{has_form}
use Rattle.elements.specs.Messages.{known, how_many, most_entries, has_layout, takes, needs}
use Rattle.elements.specs.Table.{element_of}
use Rattle.notional.specs.Amount.{digit, spelled, fraction, amount}
use Rattle.notional.specs.Masking.{over, shown, is_cap}
use Rattle.notional.specs.Rounding.{bands, step_in, step, nearest, rounded}
use Rattle.price.specs.Price.{drop_zeros, trim_zeros, shown_whole, shown_decimals, shown_unsigned, is_zero, shows_minus, shown_sign, shown_price}
use Rattle.terms.specs.Terms.{shown_truth, price_text, plus_text, terms_of}
use Rattle.rules.specs.Findings.{lowest, first_broken}
use Rattle.rules.specs.Rules.{has_both_quotes, longer, long_quote, has_long_price, out_of_order, rules_of, rules_for}
use Rattle.ledger.specs.Totals.{total_in, totals_in, total_of, sum_of, with_total, lowered, totals_after}
use Rattle.ledger.specs.Header.{rows_in_use, first_row, next_identifier, caps_in, size_of_rows, capacity_in, cap_for, are_caps, capacity_for, header_right, header_of, new_header}
use Rattle.ledger.specs.Line.{line}
use Rattle.ledger.specs.Rows.{row_at, status_of, identifier_of, stored_terms, stored_time, holds_uti, place_in, is_known, swap_status, swap_identifier, swap_time, new_row, with_status, with_identifier, with_terms, with_rows, with_next, numbers_after, header_after}
use Rattle.submission.specs.Demand3.{last_terms, masked_terms_at}
use Rattle.submission.specs.History.{publishes, line_of, tape, judgements}
use Rattle.submission.specs.Opening.{opening_rules, opening_verdict, opened}
use Rattle.submission.specs.Submission.{line_due, line_due_in, row_right, has_wrong_row, is_not_admitted, has_other_time, finds_full, swap_rules, finds_spent, submission_rules, verdict_on, cap_on, masked_terms, terms_for, place_for, row_for, ledger_for, line_for, submitted}
use Rattle.witness.specs.Encoding.{entries, values, encoded}
use Rattle.witness.specs.Messages.{package_swap, uncleared_swap, short_message}
use Rattle.witness.specs.Histories.{left, right}
use Rattle.witness.specs.Lines.{line_text, lines, tape_text}
use Rattle.witness.proofs.AlikeTest.{alike_test}

bytes : Unit {0}
unfolding field bytes_of from_le to_le digits splice same_bytes place one_of look_up first_from all_from text
bytes = tt

forms : Unit {0}
unfolding is_true is_false is_truth is_cleared is_allocation is_price_notation is_spread_notation is_asset_class iso4217 iso3166 is_currency is_location weight number grow spell is_lei run_of point_in whole_of decimals_of is_number unsigned_of is_price fits_pattern two_digits leap days_in gregorian names_date is_date is_time before
forms = tt

reading : Unit {0}
unfolding u16_at entry_right layout_right whole_entries entry_from end_of value_at value is_there action_of element_of known how_many most_entries has_layout takes needs tick pair_allowed is_package value_is is_quoted quote_of facts_of is_due kept has_form
reading = tt

masking : Unit {0}
unfolding digit spelled fraction amount over shown is_cap bands step_in step nearest rounded drop_zeros trim_zeros shown_whole shown_decimals shown_unsigned is_zero shows_minus shown_sign shown_price shown_truth price_text plus_text terms_of
masking = tt

judging : Unit {0}
unfolding lowest first_broken has_both_quotes longer long_quote has_long_price out_of_order rules_of rules_for
judging = tt

storing : Unit {0}
unfolding total_in totals_in total_of sum_of with_total lowered totals_after rows_in_use first_row next_identifier caps_in size_of_rows capacity_in cap_for are_caps capacity_for header_right header_of new_header line row_at status_of identifier_of stored_terms stored_time holds_uti place_in is_known swap_status swap_identifier swap_time new_row with_status with_identifier with_terms with_rows with_next numbers_after header_after
storing = tt

submitting : Unit {0}
unfolding last_terms masked_terms_at publishes line_of tape judgements opening_rules opening_verdict opened line_due line_due_in row_right has_wrong_row is_not_admitted has_other_time finds_full swap_rules finds_spent submission_rules verdict_on cap_on masked_terms terms_for place_for row_for ledger_for line_for submitted
submitting = tt

history : Unit {0}
unfolding entries values encoded package_swap uncleared_swap short_message left right line_text lines tape_text alike_test
history = tt

-- all of it
unfoldable pub computing : Unit {0}
unfolding bytes forms reading masking judging storing submitting history
computing = tt
