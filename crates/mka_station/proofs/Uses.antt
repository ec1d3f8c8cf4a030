-- What is given is what is given of the history's latest key.
use Rattle.std.proofs.Common.{◌≡◌, ◌∙◌, ℕ, Bool, true, false, cond, ◌&&◌, List, Option, Some, None, refl, ap, sym}
use Rattle.std.specs.Option.{option_and_then}
use Rattle.mkpdu_codec.specs.declared.given.Given.{Given}
use Rattle.sak_exchange.specs.declared.report.Report.{Report}
use Rattle.sak_exchange.proofs.Public.{by_test}
use Rattle.sak_exchange.specs.declared.held_key.Key.{Key}
use Rattle.sak_exchange.specs.Histories.{Keying}
use Rattle.sak_exchange.specs.Held.{latest}
use Rattle.mka_station.specs.Announcing.{given_as}
use Rattle.mka_station.specs.inside.Saying.{is_given_to, given_after}

-- what is given of a key
abbrev gift : List ℕ → Bool → List Report → List Keying → Key → Option Given
gift kek serves live h k = cond (serves && is_given_to h live k.id) (Some (given_as kek k)) None

none-given : (kek : List ℕ) (live : List Report) (h : List Keying) (o : Option Key) → option_and_then (gift kek false live h) o ≡ None
none-given kek live h None = refl
none-given kek live h (Some k) = refl

pub unserved : (kek : List ℕ) (live : List Report) (h : List Keying) (serves : Bool) → serves ≡ false → None ≡ given_after kek serves live h
unserved kek live h serves is = sym (rw is (none-given kek live h (latest h)))

pub ungiven-none : (kek : List ℕ) (serves : Bool) (live : List Report) (h : List Keying) → latest h ≡ None → None ≡ given_after kek serves live h
ungiven-none kek serves live h is = sym (rw is refl)

pub ungiven : (kek : List ℕ) (serves : Bool) (live : List Report) (h : List Keying) (key : Key) → latest h ≡ Some key → is_given_to h live key.id ≡ false → None ≡ given_after kek serves live h
ungiven kek serves live h key is lacks =
    let g : gift kek serves live h key ≡ None = ap (λ (b : Bool). cond (serves && b) (Some (given_as kek key)) None) lacks ∙ by_test serves (λ e. rw e refl) (λ e. rw e refl) in
    sym (ap (option_and_then (gift kek serves live h)) is ∙ g)

pub given-held : (kek : List ℕ) (serves : Bool) (live : List Report) (h : List Keying) (key : Key) → serves ≡ true → latest h ≡ Some key → is_given_to h live key.id ≡ true
    → Some (given_as kek key) ≡ given_after kek serves live h
given-held kek serves live h key served is gives =
    let g : gift kek serves live h key ≡ Some (given_as kek key) = rw (served, gives) refl in
    sym (ap (option_and_then (gift kek serves live h)) is ∙ g)
