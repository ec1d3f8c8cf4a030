-- What is sealed in place, and what is appended.
use Rattle.std.proofs.Common.{◌≡◌, ℕ, Bool, true, false, List, [], ◌++◌, length, take, drop, sym, ap, ◌∙◌}
use Rattle.std.proofs.lemmas.List.{append_assoc, take-append-drop}
use Rattle.gcm_core.specs.Gcm.{gcm}
use Rattle.gcm_frames.specs.Protected.{sealed_octets}
use Rattle.gcm_frames.proofs.Parts.{take_front, drop_front}

-- without confidentiality the frame stays as it is
pub sealed_plain : (key iv frame text check : List ℕ) (conf : Bool) → conf ≡ false → gcm key iv frame [] ≡ (text, check)
    → sealed_octets key iv conf (take 28 frame) (drop 28 frame) ≡ frame ++ check
sealed_plain key iv frame text check true e g = absurd (cc)
sealed_plain key iv frame text check false e g =
    sym (append_assoc (take 28 frame) (drop 28 frame) _)
    ∙ ap (λ (x : List ℕ). x ++ (gcm key iv x []).1) (take-append-drop 28 frame)
    ∙ ap (λ (x : List ℕ). frame ++ x) (ap (λ p. p.1) g)

-- a frame's head and user data, appended and then sealed in place, and the tag appended
pub sealed_behind : (key iv before head user items frame check : List ℕ) (conf : Bool) (start : ℕ) → start ≡ length before → length head ≡ 28
    → items ≡ (before ++ head) ++ user
    → sealed_octets key iv conf (take 28 (drop start items)) (drop 28 (drop start items)) ≡ frame ++ check
    → (take start items ++ frame) ++ check ≡ before ++ sealed_octets key iv conf head user
sealed_behind key iv before head user items frame check conf start hs hh hi g =
    let whole : items ≡ before ++ (head ++ user) = hi ∙ append_assoc before head user in
    let front : take start items ≡ before = ap (take start) whole ∙ take_front before (head ++ user) start (sym hs) in
    let back : drop start items ≡ head ++ user = ap (drop start) whole ∙ drop_front before (head ++ user) start (sym hs) in
    let first : take 28 (drop start items) ≡ head = ap (take 28) back ∙ take_front head user 28 hh in
    let rest : drop 28 (drop start items) ≡ user = ap (drop 28) back ∙ drop_front head user 28 hh in
    append_assoc (take start items) frame check
    ∙ ap (λ (x : List ℕ). take start items ++ x) (sym g)
    ∙ (λ i. front i ++ sealed_octets key iv conf (first i) (rest i))
