-- Where no words age out at a tick, it changes nothing of what is shown.
use Rattle.std.proofs.Common.{◌≡◌, ℕ, ◌-◌, true, List, [], ◌∷◌, Option, Some, None, map, refl, nat_lt, arith}
use Rattle.std.proofs.lemmas.Bool.{and_parts, ltb-true, lt-ltb}
use Rattle.std.specs.List.{list_all}
use Rattle.peer_lists.specs.declared.remembered.Words.{Words}
use Rattle.peer_lists.specs.declared.remembered.Remembered.{Remembered}
use Rattle.peer_lists.specs.Showing.{aged_peer, aged_rows, shown}
use Rattle.peer_lists.specs.inside.RowChanges.{has_more, stays}
use Rattle.peer_lists.proofs.Identifiers.{by_test}

young-later : (n : ℕ) → nat_lt 1 n ≡ true → nat_lt 0 (n - 1) ≡ true
young-later n e = let l = ltb-true 1 n e in lt-ltb 0 (n - 1) (omega arith)

stays-young : (l : Words) (v : Option Words) → stays (record { last = l; vouched = v }) ≡ true → nat_lt 0 (l.left - 1) ≡ true
stays-young l None e = young-later l.left e
stays-young l (Some w) e = young-later l.left (and_parts (has_more l) (has_more w) e).0

stays-shown : (l : Words) (v : Option Words) → stays (record { last = l; vouched = v }) ≡ true → shown (aged_peer (record { last = l; vouched = v })) ≡ shown (record { last = l; vouched = v })
stays-shown l None e = refl
stays-shown l (Some w) e =
    let y = young-later w.left (and_parts (has_more l) (has_more w) e).1 in
    by_test w.displaced (λ d. rw (y, d) refl) (λ d. rw (y, d) refl)

pub rows-stay : (ps : List Remembered) → list_all stays ps ≡ true → map shown (aged_rows ps) ≡ map shown ps
rows-stay [] e = refl
rows-stay (p ∷ ps) e =
    let b = and_parts (stays p) (list_all stays ps) e in
    let first = stays-shown p.last p.vouched b.0 in
    let others = rows-stay ps b.1 in
    rw (stays-young p.last p.vouched b.0) (cc (first, others))
