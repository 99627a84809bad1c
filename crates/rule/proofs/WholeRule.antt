-- One name that opens every definition of the rule on numbers and tables, and the calls on tables: an example says `unfolding whole_rule`, and
-- one about the book `unfolding book_rule`. Assumes nothing.
use Prim.Native.Nat.{ℕ}
use Rattle.rule.specs.Day.{given_of, opened, traded, notice_row, noticed}
use Rattle.rule.specs.Run.{used, used_table, allocable_of, usable, issue_order, allocate, basket_plan, basket, allocations, match_entry, lines_of, lines_from, match_list, line_list, covered_from, covered_to, lots_from, lots_to, covered_pair, ran}
use Rattle.rule.specs.Sound.{sizes_fit, terms_fit, all_terms_fit, at_most, receipts_fit, pairs_fit, tradable, sound, marks_fit}
use Rattle.rule.specs.Calls.{open_checks, refusal, trade_checks, distinct, notice_checks, each_once, run_checks, run_reply, close_checks, tomorrow_receipts, tomorrow_pairs}
use Rattle.rule.specs.Layout.{view, stored, book_fits, sound_book, open_of, trade_of, notice_of, run_of, close_of}
use Rattle.rule.proofs.NumberRule.{number_rule}
use Rattle.rule.proofs.DayCalls.{open_day, trade_day, notice_day, run_within, run_day, close_within, close_day, next_day, day_history}

unfoldable pub whole_rule : ℕ
unfolding number_rule given_of opened traded notice_row noticed used used_table allocable_of usable issue_order allocate basket_plan basket allocations match_entry lines_of lines_from match_list line_list covered_from covered_to lots_from lots_to covered_pair ran sizes_fit terms_fit all_terms_fit at_most receipts_fit pairs_fit marks_fit tradable sound open_checks refusal trade_checks distinct notice_checks each_once run_checks run_reply close_checks tomorrow_receipts tomorrow_pairs open_day trade_day notice_day run_within run_day close_within close_day next_day day_history
whole_rule = 0

-- and the definitions of the book
unfoldable pub book_rule : ℕ
unfolding whole_rule view stored book_fits sound_book open_of trade_of notice_of run_of close_of
book_rule = 0
