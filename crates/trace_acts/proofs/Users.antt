-- User frames by number.
use Rattle.std.proofs.Common.{◌≡◌, ℕ, suc, ◌-◌, ◌==◌, ◌≤◌, Bool, false, List, []}
use Rattle.std.proofs.Common.{◌∷◌, ◌++◌, length, Some, None, refl, ap, ◌∙◌}
use Rattle.std.proofs.Common.{length-append, add-one, arith}
use Rattle.std.specs.Prelude.{cond, slice_get}
use Rattle.lan_base.specs.declared.frame.UserFrame.{UserFrame}
use Rattle.lan_core.specs.Claims.{user_at}

user-past : (users : List UserFrame) (n : ℕ) → 1 ≤ n → user_at users n ≡ slice_get users (n - 1)
user-past users n one = let e : (n == 0)
    ≡ false = grind arith in ap (λ (b : Bool). cond b None (slice_get users (n - 1))) e

last-of : (users : List UserFrame) (user : UserFrame)
    → slice_get (users ++ user ∷ []) (length users) ≡ Some user
last-of [] user = refl
last-of (u ∷ users) user = last-of users user

pub user-at-end : (users : List UserFrame) (user : UserFrame)
    → user_at (users ++ user ∷ []) (length (users ++ user ∷ [])) ≡ Some user
user-at-end users user =
    let e : length (users ++ user ∷ []) ≡ suc (length users) = length-append users (user ∷ [])
    ∙ add-one (length users) in
    let before : suc (length users) - 1 ≡ length users = omega arith in
    ap (λ (n : ℕ). user_at (users ++ user ∷ []) n) e
    ∙ user-past (users ++ user ∷ []) (suc (length users)) (omega arith)
    ∙ ap (λ (n : ℕ). slice_get (users ++ user ∷ []) n) before ∙ last-of users user
