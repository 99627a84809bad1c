-- Laws that the proofs of the entries cite.
mod EntryLaws
