-- Laws that the lines' proofs cite.
mod GatheredLaws
