-- The line is read, and the call made, on each way out.
use Rattle.day_lines.proofs.calls.notice.Goals.{After-notice}
use Rattle.day_lines.proofs.calls.notice.Goals as goal
use Rattle.day_lines.proofs.calls.notice.Given as given
use Rattle.day_lines.proofs.AnsweredLaws.{call-refused, answer-unwritten, noticed-with}
use Rattle.std.specs.Prelude.{◌≡◌}
use mathlib.Core.Path.{sym}
use Rattle.words.specs.Lines.{words_left}
use Rattle.rule.specs.Calls.{Reply}
use Rattle.rule.specs.Layout.{notice_of}
use Rattle.day_words.specs.Named.{codes_in}
use Rattle.day_lines.specs.Answered.{Notices}

-- the call on the words that were read
noticed : (g : given.Over) (c : After-notice g) (reply : Reply) →
    (reply, c.notice.new.book) ≡ notice_of c.args.book.now c.in_ok-participant.participant c.as_slice.result.now c.as_slice-2.result.now →
    Notices (words_left c.args.line) c.args.book.now c.notice.new.book reply
noticed g c reply called = record {
  participant = c.in_ok-participant.ensures.read.word;
  entries = words_left c.number.new.self;
  parts = c.in_ok-participant.ensures.read.parts;
  read = c.in_ok-participant.ensures.read.right.0;
  codes = codes_in c.codes_in_book-codes.result;
  issues = c.fill_entries.new.issues.items;
  lots = c.fill_entries.new.lots.items;
  named = c.in_ok-fill_entries.ensures;
  called =
      noticed-with reply c.args.book.now c.notice.new.book _ _ _ _ _ _ called
      (sym c.in_ok-participant.ensures.read.right.1) c.as_slice.ensures.value c.as_slice-2.ensures.value;
}

pub returns-in_err-notice : goal.returns-in_err-notice
returns-in_err-notice g c =
    call-refused c.from_residual-in_err-notice.result c.in_err-notice.field-0.0 (Notices (words_left c.args.line) c.args.book.now c.notice.new.book) c.args.book.now c.notice.new.book
    c.from_residual-in_err-notice.ensures.1
    (noticed g (goal.at.returns-in_err-notice g c).After-notice _ c.in_err-notice.ensures)

pub returns-in_err-println : goal.returns-in_err-println
returns-in_err-println g c =
    answer-unwritten c.from_residual-in_err-println.result (Notices (words_left c.args.line) c.args.book.now c.notice.new.book) c.args.book.now c.notice.new.book
    c.from_residual-in_err-println.ensures.1
    (noticed g (goal.at.returns-in_err-println g c).After-notice _ c.in_ok-notice.ensures)

pub returns : goal.returns
returns g c = noticed g (goal.at.returns g c).After-notice _ c.in_ok-notice.ensures
