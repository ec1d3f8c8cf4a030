-- A claim that got a number waits for its emission.
use Rattle.std.proofs.Common.{◌≡◌, ◌≤◌, ℕ, zero, suc, ◌+◌, ◌==◌, Bool, true, false, List, [], ◌∷◌}
use Rattle.std.proofs.Common.{◌++◌, length, Option, Some, None, refl, ◌∙◌, subst, arith}
use Rattle.std.specs.Prelude.{cond, slice_get, is_some}
use Rattle.lan_base.specs.declared.frame.UserFrame.{UserFrame}
use Rattle.sak_exchange.specs.declared.held_key.Key.{Key}
use Rattle.lan_core.specs.declared.event.Event.TheVariants as events
use Rattle.lan_core.specs.declared.fact.Fact.{Fact}
use Rattle.lan_core.specs.declared.fact.Fact.TheVariants as facts
use Rattle.lan_core.specs.declared.fact.Lack.{Lack}
use Rattle.lan_core.specs.declared.settings.Settings.{Settings}
use Rattle.lan_core.specs.Run.{Run, happened}
use Rattle.lan_core.specs.Ledgers.{Frame, air, emitted, framed, gather}
use Rattle.lan_core.specs.Claims.{claimed, waiting, waiting_under, Waiting, user_at}
use Rattle.lan_core.specs.Lives.{life, transmitting_at}
use Rattle.lan_core.specs.Expected.{expected, Drawn, lack, claim_fact, number_fact}
use Rattle.lan_core.specs.Stops.{IsDemanded, MayCome}
use Rattle.lan_core.proofs.Public.{mapped}

-- a claim puts nothing on the air
no-frame-of : (b : Bool) (s pn : ℕ) (why : Lack) (k : Option Key)
    → framed (cond b (facts.Unclaimed s why) (number_fact s pn k)) ≡ None
no-frame-of true s pn why k = refl
no-frame-of false s pn why None = refl
no-frame-of false s pn why (Some k) = refl

no-gather-one : (fact : Fact) (xs : List Frame) → framed fact ≡ None
    → gather framed (fact ∷ []) xs ≡ xs
no-gather-one fact xs e = rw e refl

-- one more stands behind those that were there
behind : {A : Type 0} (xs : List A) (x : A) (n : ℕ) → n ≤ length xs
    → is_some (slice_get (xs ++ x ∷ []) n) ≡ true
behind [] x zero le = refl
behind [] x (suc n) le = absurd (omega arith)
behind (y ∷ ys) x zero le = refl
behind (y ∷ ys) x (suc n) le = behind ys x n (omega arith)

-- a claim that got a number is one more of those that wait
one-more : (settings : Settings) (s : ℕ) (r : Run) (pn user : ℕ) (given at : Option UserFrame)
    (k : Option Key) (n : ℕ) (b : Bool) (xs : List Waiting) → (pn == 0) ≡ b → b ≡ false
    → n ≤ length xs → IsDemanded settings s r pn given at k
    → is_some (slice_get (xs ++ waiting_under s user pn k) n) ≡ true
one-more settings s r pn user given at None n b xs e some le demanded =
    absurd (let zeroth : pn ≡ 0 = demanded in let bad : (0 == 0)
    ≡ false = subst (λ (m : ℕ). (m == 0) ≡ false) zeroth (e ∙ some) in cc bad)
one-more settings s r pn user given at (Some k) n b xs e some le demanded =
    rw (e, some) (behind xs _ n le)

-- what a claim shows leaves the air as it was
claim-air : (settings : Settings) (users : List UserFrame) (r : Run) (s user pn : ℕ) (drawn : Drawn)
    (shown : List Fact) → expected settings users r (events.Claim s user pn) drawn ≡ Some shown
    → gather framed shown (air r) ≡ air r
unfolding expected
claim-air settings users r s user pn drawn shown is =
    let k = transmitting_at settings s r in
    let lives = mapped (λ l. claim_fact settings s r pn k ∷ []) (life settings s r) shown is in
    subst (λ (f : List Fact). gather framed f (air r) ≡ air r) lives.2
    (no-gather-one (claim_fact settings s r pn k) (air r)
    (no-frame-of (pn == 0) s pn (lack settings s r k) k))

pub waits-then : (settings : Settings) (users : List UserFrame) (r : Run) (given : Option UserFrame)
    (s user pn : ℕ) (drawn : Drawn) (shown : List Fact)
    → length (emitted r) ≤ length (claimed settings r)
    → MayCome settings users r given (events.Claim s user pn)
    → expected settings users r (events.Claim s user pn) drawn ≡ Some shown
    → (pn == 0) ≡ false
    → is_some (waiting settings (happened (events.Claim s user pn) shown ∷ r)) ≡ true
unfolding claimed air
waits-then settings users r given s user pn drawn shown turn may is some =
    let still = claim-air settings users r s user pn drawn shown is in
    rw still (one-more settings s r pn user given (user_at users user)
    (transmitting_at settings s r) (length (emitted r)) (pn == 0) (claimed settings r) refl some
    turn may.2)
