-- What the rules of a station say where a key begins or is made.
use Rattle.std.proofs.Common.{◌≡◌, true, false, not, ◌&&◌, List, refl, ap, sym, ◌∙◌, subst}
use Rattle.std.proofs.Common.{Option, Some, None, is_some, nat_lt, length}
use Rattle.std.proofs.lemmas.Bool.{and_parts}
use Rattle.std.specs.Prelude.{is_none}
use Rattle.std.specs.List.{list_all}
use Rattle.aes_block.specs.declared.secret.Secret.{Secret}
use Rattle.mkpdu_codec.specs.declared.announcement.Announcement.{Announcement}
use Rattle.mkpdu_codec.specs.declared.key_use.Uses.{Uses}
use Rattle.peer_lists.specs.declared.heard.Outcome.{Outcome}
use Rattle.sak_exchange.specs.declared.change.Cause.TheVariants.{All, Flag}
use Rattle.sak_exchange.specs.declared.due.Seen.{Seen}
use Rattle.sak_exchange.specs.declared.report.Report.{Report}
use Rattle.sak_exchange.specs.declared.held_key.Key.{Key}
use Rattle.sak_exchange.specs.Histories.{Keying, has_begun, clock, last_made_at, last_roster}
use Rattle.sak_exchange.specs.Held.{latest, allows, may_begin}
use Rattle.sak_exchange.specs.Reports.{reports_latest, transmits}
use Rattle.sak_exchange.specs.Beginning.{Beginning, leads, follows, lead_cause, is_latest_made}
use Rattle.sak_exchange.specs.Beginning.{is_long_ago}
use Rattle.sak_exchange.specs.Making.{makes, made_key}
use Rattle.sak_exchange.proofs.Public.{by_test, by_option, not-true}
use Rattle.mka_station.specs.Lives.{Member}
use Rattle.mka_station.specs.Views.{View, reports, serves, is_server}
use Rattle.mka_station.specs.Tick.{led, made, makes_now}
use Rattle.mka_station.specs.Hearing.{is_vouched}
use Rattle.mka_station.specs.Hearing.{followed}

-- ---- the server leads

-- a key that its own server begins
pub record IsLed (m : Member) (v : View) (b : Beginning) : Type 0 where
  pub serves_here : serves m v ≡ true
  pub latest_key : latest v.keys ≡ Some b.key
  pub made_here : is_latest_made v.keys ≡ true
  pub unbegun : has_begun v.keys b.key.epoch ≡ false
  pub caused : lead_cause v.keys (reports v.live) b.key ≡ Some b.cause

led-by : (h : List Keying) (live : List Report) (b : Beginning) → leads h live ≡ Some b
    → (latest h ≡ Some b.key) × (is_latest_made h ≡ true) × (has_begun h b.key.epoch ≡ false) ×
    (lead_cause h live b.key ≡ Some b.cause)
led-by h live b is =
    by_option (latest h)
    (λ none. let never = rw none at is in absurd (cc (never)))
    (λ k newest. let found = rw newest at is in
    by_test (is_some (last_roster h) && not (has_begun h k.epoch))
    (λ t. let both = and_parts (is_some (last_roster h)) (not (has_begun h k.epoch)) t in
    let here : is_latest_made h ≡ true = rw newest both.0 in
    by_option (lead_cause h live k)
    (λ none. let never = rw (t, none) at found in absurd (cc (never)))
    (λ c caused. let now = rw (t, caused) at found in
    let key : k ≡ b.key = let e : record { key = k; cause = c } ≡ b = cc (now) in
    ap (λ (w : Beginning). w.key) e in
    let cause : c ≡ b.cause = let e : record { key = k; cause = c } ≡ b = cc (now) in
    ap (λ (w : Beginning). w.cause) e in (
      newest ∙ ap Some key,
      here,
      subst (λ (j : Key). has_begun h j.epoch ≡ false) key (not-true (has_begun h k.epoch) both.1),
      subst (λ (j : Key). lead_cause h live j ≡ Some b.cause) key (caused ∙ ap Some cause),
    )))
    (λ f. let never = rw f at found in absurd (cc (never))))

pub led-is : (m : Member) (v : View) (b : Beginning) → led m v ≡ Some b → IsLed m v b
led-is m v b is =
    by_test (serves m v)
    (λ t. let r = led-by v.keys (reports v.live) b (rw t at is) in
    record { serves_here = t; latest_key = r.0; made_here = r.1; unbegun = r.2; caused = r.3 })
    (λ t. let never = rw t at is in absurd (cc (never)))

pub may : (h : List Keying) (k : Key) → latest h ≡ Some k → has_begun h k.epoch ≡ false
    → may_begin h k.epoch ≡ true
may h k is unbegun = rw (is, unbegun)
    (rw (Rattle.std.proofs.lemmas.Bool.eq-eqb k.epoch k.epoch refl) refl)

-- where all report it, all do
pub all-report : (h : List Keying) (live : List Report) (k : Key) → lead_cause h live k ≡ Some All
    → list_all (λ r. reports_latest k.id r.uses) live ≡ true
all-report h live k is =
    by_test (list_all (λ r. reports_latest k.id r.uses) live) (λ t. t)
    (λ t. by_test (is_long_ago (clock h) (last_made_at h))
    (λ u. let never = rw (t, u) at is in absurd (cc (never)))
    (λ u. let never = rw (t, u) at is in absurd (cc (never))))

-- ---- the server makes

pub record IsMaking (m : Member) (v : View) (seen : Seen) (sak : Secret) (k : Key) : Type 0 where
  pub serves_here : serves m v ≡ true
  pub none_led : led m v ≡ None
  pub allowed : allows v.keys ≡ true
  pub key : k ≡ made_key m.base m.mi v.keys m.setup.conf sak

none-is : {A : Type 0} (o : Option A) → is_none o ≡ true → o ≡ None
none-is None is = refl
none-is (Some a) is = absurd (cc (is))

pub making-is : (m : Member) (v : View) (seen : Seen) (sak : Secret) (k : Key)
    → made m v seen sak ≡ Some k
    → IsMaking m v seen sak k
making-is m v seen sak k is =
    by_test (makes_now m v seen)
    (λ t. let found = rw t at is in
    let first = and_parts (serves m v)
    (is_none (led m v) && makes v.keys (reports v.live)
    (nat_lt 0 (length v.potential)) seen m.setup.rekey) t in
    let second = and_parts (is_none (led m v))
    (makes v.keys (reports v.live) (nat_lt 0 (length v.potential)) seen m.setup.rekey) first.1
    in
    let third = and_parts (allows v.keys) _ second.1 in
    record {
      serves_here = first.0;
      none_led = none-is (led m v) second.0;
      allowed = third.0;
      key =
          let e : made_key m.base m.mi v.keys m.setup.conf sak ≡ k = cc (found) in sym e;
    })
    (λ t. let never = rw t at is in absurd (cc (never)))

-- ---- a member follows

pub record IsFollowing (v : View) (o : Outcome) (a : Announcement) (b : Beginning) : Type 0 where
  pub vouched : is_vouched o ≡ true
  pub elected : is_server v.server a.mi ≡ true
  pub uses : Uses
  pub said : a.uses ≡ Some uses
  pub latest_key : latest v.keys ≡ Some b.key
  pub unbegun : has_begun v.keys b.key.epoch ≡ false
  pub sends : transmits b.key.id uses ≡ true
  pub cause : b.cause ≡ Flag

following-by : (h : List Keying) (u : Uses) (b : Beginning) → follows h u ≡ Some b
    → (latest h ≡ Some b.key) × (has_begun h b.key.epoch ≡ false) × (transmits b.key.id u ≡ true) ×
    (b.cause ≡ Flag)
following-by h u b is =
    by_option (latest h)
    (λ none. let never = rw none at is in absurd (cc (never)))
    (λ k newest. let found = rw newest at is in
    by_test (not (has_begun h k.epoch) && transmits k.id u)
    (λ t. let both = and_parts (not (has_begun h k.epoch)) (transmits k.id u) t in
    let now = rw t at found in
    let e : record { key = k; cause = Flag } ≡ b = cc (now) in
    let key : k ≡ b.key = ap (λ (w : Beginning). w.key) e in (
      newest ∙ ap Some key,
      subst (λ (j : Key). has_begun h j.epoch ≡ false) key (not-true (has_begun h k.epoch) both.0),
      subst (λ (j : Key). transmits j.id u ≡ true) key both.1,
      sym (ap (λ (w : Beginning). w.cause) e),
    ))
    (λ f. let never = rw f at found in absurd (cc (never))))

pub following-is : (v : View) (o : Outcome) (a : Announcement) (b : Beginning)
    → followed v o a ≡ Some b
    → IsFollowing v o a b
following-is v o a b is =
    by_test (is_vouched o && is_server v.server a.mi)
    (λ t. let both = and_parts (is_vouched o) (is_server v.server a.mi) t in
    let found = rw t at is in
    by_option a.uses
    (λ none. let never = rw none at found in absurd (cc (never)))
    (λ u said. let r = following-by v.keys u b (rw said at found) in
    record {
      vouched = both.0;
      elected = both.1;
      uses = u;
      said = said;
      latest_key = r.0;
      unbegun =
          r.1;
      sends = r.2;
      cause = r.3;
    }))
    (λ t. let never = rw t at is in absurd (cc (never)))
