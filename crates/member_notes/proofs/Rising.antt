-- Whether a message number is above all, when one more comes.
use Rattle.std.proofs.Common.{◌≡◌, ◌∙◌, ◌<◌, ◌≤◌, ◌⊎◌, inl, inr, ℕ, List, ◌∷◌, Some, max, sym, ap, arith}
use Rattle.std.specs.Prelude.{◌&&◌, nat_lt}
use Rattle.std.proofs.lemmas.Bool.{cases_lt, lt-ltb, le-ltb}
use Rattle.member_notes.specs.declared.mkpdu.RightMkpdu.{RightMkpdu}
use Rattle.member_notes.specs.Mkpdus.{is_above}
use Rattle.member_notes.specs.Standing.{above_all}

max-below : (a b n : ℕ) → nat_lt (max a b) n ≡ (nat_lt b n && nat_lt a n)
max-below a b n = go (cases_lt b n) (cases_lt a n)
  where
    go : (b < n) ⊎ (n ≤ b) → (a < n) ⊎ (n ≤ a) → nat_lt (max a b) n ≡ (nat_lt b n && nat_lt a n)
    go (inl p) (inl q) =
        lt-ltb (max a b) n (omega (arith, p, q)) ∙ sym (ap (λ x. x && nat_lt a n) (lt-ltb b n p) ∙ lt-ltb a n q)
    go (inl p) (inr q) =
        le-ltb (max a b) n (omega (arith, q)) ∙ sym (ap (λ x. x && nat_lt a n) (lt-ltb b n p) ∙ le-ltb a n q)
    go (inr p) q =
        le-ltb (max a b) n (omega (arith, p)) ∙ sym (ap (λ x. x && nat_lt a n) (le-ltb b n p))

pub rises : (g : ℕ) (ms : List RightMkpdu) (e : RightMkpdu)
    → ((mn : ℕ) → above_all mn (Some g) ≡ is_above mn ms) → (mn : ℕ)
    → above_all mn (Some (max g e.mn)) ≡ is_above mn (e ∷ ms)
rises g ms e above mn = max-below g e.mn mn ∙ ap (λ b. nat_lt e.mn mn && b) (above mn)
