-- Laws that the proofs of the lines cite.
mod AnsweredLaws
