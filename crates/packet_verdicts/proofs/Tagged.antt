-- The frame of a packet is what it has without its tags.
use Rattle.std.specs.Prelude.{◌&&◌}
use Rattle.std.proofs.Common.{◌≡◌, ℕ, ◌*◌, ◌<◌, ◌≤◌, Bool, true, false, cond, List, [], ◌∷◌, ◌++◌, length, take, drop, refl, sym, ap, ◌∙◌, arith, append_assoc, length-append}
use Rattle.std.specs.List.{flat_map}
use Rattle.std.proofs.Math.Seq.{take-append_seam}
use Rattle.std.proofs.lemmas.Bool.{le-leb}
use Rattle.packet_verdicts.specs.Frames.{AreTags, IsTag, IsTagged, begins_with_tag, frame_of, tag_count}
use Rattle.packet_verdicts.proofs.Moved.{behind_front}

both : (p q : Bool) → p ≡ true → q ≡ true → (p && q) ≡ true
both true q e h = h
both false q e h = e

-- what stands behind a tag doesn't matter
begins_front : (tag rest : List ℕ) → IsTag tag → begins_with_tag (tag ++ rest) ≡ true
begins_front [] rest is = absurd (let e : length {A = ℕ} [] ≡ 4 = is.whole in omega arith)
begins_front (a ∷ []) rest is = absurd (let e : length (a ∷ []) ≡ 4 = is.whole in omega arith)
begins_front (a ∷ b ∷ []) rest is = absurd (let e : length (a ∷ b ∷ []) ≡ 4 = is.whole in omega arith)
begins_front (a ∷ b ∷ c ∷ []) rest is = absurd (let e : length (a ∷ b ∷ c ∷ []) ≡ 4 = is.whole in omega arith)
begins_front (a ∷ b ∷ c ∷ d ∷ []) rest is =
    let long : 4 ≤ length (a ∷ b ∷ c ∷ d ∷ rest) = omega arith in
    both _ _ (le-leb 4 (length (a ∷ b ∷ c ∷ d ∷ rest)) long) is.begins
begins_front (a ∷ b ∷ c ∷ d ∷ x ∷ more) rest is = absurd (let e : length (a ∷ b ∷ c ∷ d ∷ x ∷ more) ≡ 4 = is.whole in omega arith)

-- a tag in front counts, and one behind it
first : (tag rest octets : List ℕ) → octets ≡ tag ++ rest → IsTag tag → tag_count octets ≡ cond (begins_with_tag rest) 2 1
first tag rest octets e is =
    ap tag_count e
    ∙ ap (λ b. cond b (cond (begins_with_tag (drop 4 (tag ++ rest))) 2 1) 0) (begins_front tag rest is)
    ∙ ap (λ xs. cond (begins_with_tag xs) 2 1) (behind_front tag rest 4 is.whole)

abbrev joined : List (List ℕ) → List ℕ
joined tags = flat_map (λ tag. tag) tags

counted : (tags : List (List ℕ)) (rest : List ℕ) → AreTags tags → length tags ≤ 2
    → (length tags < 2 → begins_with_tag rest ≡ false)
    → tag_count (joined tags ++ rest) ≡ length tags
counted [] rest are few all =
    ap (λ b. cond b (cond (begins_with_tag (drop 4 rest)) 2 1) 0) (all (omega arith))
counted (tag ∷ []) rest are few all =
    first tag rest (joined (tag ∷ []) ++ rest) (append_assoc tag [] rest) are.0
    ∙ ap (λ b. cond b 2 1) (all (omega arith))
counted (tag ∷ next ∷ []) rest are few all =
    first tag (joined (next ∷ []) ++ rest) (joined (tag ∷ next ∷ []) ++ rest) (append_assoc tag (joined (next ∷ [])) rest) are.0
    ∙ ap (λ xs. cond (begins_with_tag xs) 2 1) (append_assoc next [] rest)
    ∙ ap (λ b. cond b 2 1) (begins_front next rest are.1.0)
counted (tag ∷ next ∷ third ∷ more) rest are few all =
    absurd (let e : length (tag ∷ next ∷ third ∷ more) ≤ 2 = few in omega arith)

length-joined : (tags : List (List ℕ)) → AreTags tags → length (joined tags) ≡ 4 * length tags
length-joined [] are = refl
length-joined (tag ∷ tags) are =
    let here : length tag ≡ 4 = are.0.whole in
    let there : length (joined tags) ≡ 4 * length tags = length-joined tags are.1 in
    length-append tag (joined tags) ∙ omega arith

pub front : (xs rest : List ℕ) (n : ℕ) → length xs ≡ n → take n (xs ++ rest) ≡ xs
front xs rest n e = ap (λ k. take k (xs ++ rest)) (sym e) ∙ take-append_seam xs rest

pub tagged : (addresses behind packet : List ℕ) (tags : List (List ℕ))
    → IsTagged addresses tags behind packet → frame_of packet ≡ addresses ++ behind
tagged addresses behind packet tags is =
    let body : List ℕ = joined tags ++ behind in
    ap frame_of is.parts
    ∙ ap (λ xs. take 12 (addresses ++ body) ++ drop (4 * tag_count xs) xs) (behind_front addresses body 12 is.twelve)
    ∙ ap (λ xs. xs ++ drop (4 * tag_count body) body) (front addresses body 12 is.twelve)
    ∙ ap (λ n. addresses ++ drop (4 * n) body) (counted tags behind is.are_tags is.few is.all)
    ∙ ap (λ xs. addresses ++ xs) (behind_front (joined tags) behind (4 * length tags) (length-joined tags is.are_tags))
