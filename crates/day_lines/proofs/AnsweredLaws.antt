-- What a line answers whose call was refused, or whose answer cannot be written: what the call says is said of it.
use Rattle.std.specs.Prelude.{◌≡◌, ℕ, List, Result, Ok, Err, IsErrAnd}
use mathlib.Core.Path.{sym, subst}
use Rattle.rule.specs.Calls.{Reply, accepted, refused}
use Rattle.rule.specs.Layout.{notice_of}
use Rattle.reply.specs.declared.Refusal.{Refusal}
use Rattle.reply.specs.Answers.{number_of}
use Rattle.day_lines.specs.Answered.{Answers}
use Rattle.day_lines.specs.declared.failure.Failure.{Failure}
use Rattle.day_lines.specs.declared.failure.Failure.TheVariants.{Refused, Unwritten}

pub call-refused : (result : Result Unit Failure) (why : Refusal) (Calls : Reply → Type 0) (old new : List ℕ) →
    IsErrAnd result (λ failure. failure ≡ Refused why) → Calls (refused (number_of why)) → Answers result Calls old new
call-refused (Ok _) why Calls old new is called = elim is [ ]
call-refused (Err failure) why Calls old new is called = subst (λ (f : Failure). Answers (Err f) Calls old new) (sym is) called

pub answer-unwritten : (result : Result Unit Failure) (Calls : Reply → Type 0) (old new : List ℕ) →
    IsErrAnd result (λ failure. failure ≡ Unwritten) → Calls accepted → Answers result Calls old new
answer-unwritten (Ok _) Calls old new is called = elim is [ ]
answer-unwritten (Err failure) Calls old new is called = subst (λ (f : Failure). Answers (Err f) Calls old new) (sym is) called

-- a notice's call on the numbers that its words are
pub noticed-with : (reply : Reply) (old new : List ℕ) (p q : ℕ) (a b c d : List ℕ) →
    (reply, new) ≡ notice_of old p a c → p ≡ q → a ≡ b → c ≡ d → (reply, new) ≡ notice_of old q b d
noticed-with reply old new p q a b c d called is-p is-a is-c = search
