-- Entries, one word after the other.
use Rattle.std.proofs.Common.{◌≡◌, ℕ, ◌<◌, List, [], ◌∷◌, ◌++◌, length, get_or, arith, length-append, below_more}
use Rattle.std.proofs.Math.ListN.{get_or-append}
use Rattle.std.proofs.Math.Seq.{get_or-append_seam}
use Rattle.day_words.specs.Named.{AreEntries, IsEntry}

pub entries_more : (codes words : List (List ℕ)) (issues lots : List ℕ) (word : List ℕ) (issue count : ℕ)
    → AreEntries codes words issues lots → IsEntry codes word issue count
    → AreEntries codes (words ++ (word ∷ [])) (issues ++ (issue ∷ [])) (lots ++ (count ∷ []))
entries_more codes words issues lots word issue count so_far entry =
    let P : ℕ → Type 0 = λ k. IsEntry codes (get_or (words ++ (word ∷ [])) k []) (get_or (issues ++ (issue ∷ [])) k 0) (get_or (lots ++ (count ∷ [])) k 0) in
    let one_issue : get_or (issues ++ (issue ∷ [])) (length words) 0 ≡ issue = rw (← so_far.issues_len) (get_or-append_seam issues issue [] 0) in
    let one_count : get_or (lots ++ (count ∷ [])) (length words) 0 ≡ count = rw (← so_far.lots_len) (get_or-append_seam lots count [] 0) in
    record {
      issues_len = simp length-append (omega arith);
      lots_len = simp length-append (omega arith);
      each = λ k h. below_more P (length words)
          (λ j lt.
          let of_issues : j < length issues = omega arith in
          let of_lots : j < length lots = omega arith in
          rw (get_or-append words (word ∷ []) [] j lt, get_or-append issues (issue ∷ []) 0 j of_issues, get_or-append lots (count ∷ []) 0 j of_lots) (so_far.each j lt))
          (rw (get_or-append_seam words word [] [], one_issue, one_count) entry)
          k (omega (arith, length-append words (word ∷ [])));
    }
