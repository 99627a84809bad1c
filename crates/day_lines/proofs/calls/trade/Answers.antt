-- The line is read, and the call made, on each way out.
use Rattle.day_lines.proofs.calls.trade.Goals as goal
use Rattle.day_lines.proofs.AnsweredLaws.{call-refused, answer-unwritten}
use Rattle.words.specs.Lines.{words_left}
use Rattle.day_lines.specs.Answered.{Trades}

pub returns-in_err-trade : goal.returns-in_err-trade
returns-in_err-trade g c =
    call-refused c.from_residual-in_err-trade.result c.in_err-trade.field-0.0 (Trades (words_left c.args.line) c.args.book.now c.trade.new.book) c.args.book.now c.trade.new.book
    c.from_residual-in_err-trade.ensures.1
    (record { trade = c.in_ok-seller.field-0; read = c.in_ok-seller.ensures; called = c.in_err-trade.ensures })

pub returns-in_err-println : goal.returns-in_err-println
returns-in_err-println g c =
    answer-unwritten c.from_residual-in_err-println.result (Trades (words_left c.args.line) c.args.book.now c.trade.new.book) c.args.book.now c.trade.new.book
    c.from_residual-in_err-println.ensures.1
    (record { trade = c.in_ok-seller.field-0; read = c.in_ok-seller.ensures; called = c.in_ok-trade.ensures })

pub returns : goal.returns
returns g c = record { trade = c.in_ok-seller.field-0; read = c.in_ok-seller.ensures; called = c.in_ok-trade.ensures }
