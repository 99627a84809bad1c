-- The call is made, on each way out.
use Rattle.day_lines.proofs.calls.open.Goals as goal
use Rattle.day_lines.proofs.AnsweredLaws.{call-refused, answer-unwritten}
use mathlib.Core.Path.{refl}
use Rattle.words.specs.Lines.{words_left}
use Rattle.day_lines.specs.Answered.{Opens}

pub returns-in_err-open : goal.returns-in_err-open
returns-in_err-open g c =
    call-refused c.from_residual-in_err-open.result c.in_err-open.field-0.0 (Opens c.args.gathered.now (words_left c.args.line) c.args.book.now c.open.new.book) c.args.book.now c.open.new.book
    c.from_residual-in_err-open.ensures.1
    (record { parts = c.in_ok-end.ensures.0 refl; called = c.in_err-open.ensures })

pub returns-in_err-println : goal.returns-in_err-println
returns-in_err-println g c =
    answer-unwritten c.from_residual-in_err-println.result (Opens c.args.gathered.now (words_left c.args.line) c.args.book.now c.open.new.book) c.args.book.now c.open.new.book
    c.from_residual-in_err-println.ensures.1
    (record { parts = c.in_ok-end.ensures.0 refl; called = c.in_ok-open.ensures })

pub returns : goal.returns
returns g c = record { parts = c.in_ok-end.ensures.0 refl; called = c.in_ok-open.ensures }
