-- What a station gives at a tick is a key that the run made.
use Rattle.std.proofs.Common.{◌≡◌, ◌≤◌, ◌+◌, refl, sym, ap, ◌∙◌, subst, ℕ, List, ◌∷◌}
use Rattle.std.proofs.Common.{Option, Some, None, Result, Ok, Err, arith}
use Rattle.lan_base.specs.Ranges.{most_ticks}
use Rattle.lan_base.specs.declared.address.Mi.{Mi}
use Rattle.lan_base.specs.declared.frame.UserFrame.{UserFrame}
use Rattle.aes_block.specs.Aes.{IsKey as IsCipherKey, IsOctets}
use Rattle.aes_block.specs.declared.secret.Secret.{Secret}
use Rattle.aes_block.specs.declared.secret.Secret.TheVariants.{S128, S256}
use Rattle.key_wrap.specs.Wrap.{wrapped}
use Rattle.known_keys.specs.Known.{is_open}
use Rattle.mkpdu_codec.specs.declared.announcement.Announcement.{Announcement}
use Rattle.mkpdu_codec.specs.declared.given.Given.{Given}
use Rattle.packet_verdicts.specs.declared.given.Gift.{Gift}
use Rattle.packet_verdicts.specs.declared.given.NoSak.{NoSak}
use Rattle.packet_verdicts.specs.declared.given.NoSak.TheVariants.{OtherSuite, WrongWrap}
use Rattle.packet_verdicts.specs.Given.{Gives, GivesBy, IsGift, IsSak}
use Rattle.sak_exchange.specs.declared.due.Seen.{Seen}
use Rattle.sak_exchange.specs.declared.held_key.Key.{Key}
use Rattle.sak_exchange.specs.Held.{latest}
use Rattle.mka_station.specs.Lives.{Member, Entry, Setup, keys_of}
use Rattle.mka_station.specs.Views.{view}
use Rattle.mka_station.specs.Announcing.{announcement, given, given_as, wrapped_key}
use Rattle.mka_station.specs.Tick.{ticked_past}
use Rattle.lan_core.specs.declared.event.Event.TheVariants as events
use Rattle.lan_core.specs.declared.fact.Fact.{Fact}
use Rattle.lan_core.specs.declared.settings.Settings.{Settings}
use Rattle.lan_core.specs.Run.{Run, happened}
use Rattle.lan_core.specs.Fresh.{IsFresh, IsUnforged}
use Rattle.lan_core.specs.Ledgers.{Install, installs}
use Rattle.lan_core.specs.Legal.{IsStepped}
use Rattle.lan_core.specs.Lives.{Life, sak_in}
use Rattle.lan_core.specs.Order.{ticks}
use Rattle.lan_core.specs.Types.{IsSecret}
use Rattle.group_safety.proofs.Public.{In, in-contains, known, run-drawn, IsKnown, IsLiving, install_by}
use Rattle.group_safety.proofs.Public.{kek-key, IsReady, AreSound, tick-sound, tick_lowest}
use Rattle.group_safety.proofs.Public.{tick-backed, said-now, given-is, view-keys}
use Rattle.group_safety.proofs.Public.{installed-key, latest-installed, latest-last, last-made}
use Rattle.group_safety.proofs.Public.{made-own, installs-next}
use Rattle.clean_audits.specs.Captured.{GivesMade, IsGiftOf}
use Rattle.clean_audits.specs.Given.{group_kek}
use Rattle.clean_audits.proofs.GivenKeys.{IsTick, gist-of, opens-by, said_by, secret-of, seen_by}

-- no two keys of one length have one wrap
abbrev pub OneWrap : Type 0
OneWrap = (kek a b : List ℕ) (n : ℕ) → IsCipherKey kek → 8 ≤ n → IsOctets n a → IsOctets n b
    → wrapped kek a ≡ wrapped kek b → a ≡ b

-- ---- what a key that is given hides

hidden-128 : OneWrap → (kek octets : List ℕ) (sak : Result Secret NoSak) → IsCipherKey kek
    → IsOctets 16 octets → IsSak kek (wrapped_key kek (S128 octets)) sak → sak ≡ Ok (S128 octets)
hidden-128 one kek octets (Ok (S128 sak)) is_key is hides =
    ap (λ o. Ok (S128 o)) (one kek sak octets 16 is_key (omega arith) hides.0 is hides.1)
hidden-128 one kek octets (Ok (S256 sak)) is_key is hides = elim hides [ ]
hidden-128 one kek octets (Err WrongWrap) is_key is hides = absurd (hides octets is refl)
hidden-128 one kek octets (Err OtherSuite) is_key is hides = elim hides [ ]

hidden-256 : OneWrap → (kek octets : List ℕ) (sak : Result Secret NoSak) → IsCipherKey kek
    → IsOctets 32 octets → IsSak kek (wrapped_key kek (S256 octets)) sak → sak ≡ Ok (S256 octets)
hidden-256 one kek octets (Ok (S256 sak)) is_key is hides =
    ap (λ o. Ok (S256 o)) (one kek sak octets 32 is_key (omega arith) hides.0 is hides.1)
hidden-256 one kek octets (Ok (S128 sak)) is_key is hides = elim hides [ ]
hidden-256 one kek octets (Err WrongWrap) is_key is hides = absurd (hides octets is refl)
hidden-256 one kek octets (Err OtherSuite) is_key is hides = elim hides [ ]

hidden-sak : OneWrap → (kek : List ℕ) (s : Secret) (sak : Result Secret NoSak) → IsCipherKey kek
    → IsSecret s → IsSak kek (wrapped_key kek s) sak → sak ≡ Ok s
hidden-sak one kek (S128 octets) sak is_key is hides =
    hidden-128 one kek octets sak is_key (record { count = is.0; octets = is.1 }) hides
hidden-sak one kek (S256 octets) sak is_key is hides =
    hidden-256 one kek octets sak is_key (record { count = is.0; octets = is.1 }) hides

-- a gift of a key that was installed
gift-of : OneWrap → (kek : List ℕ) (mi : Mi) (s : ℕ) (key : Key) (gift : Gift)
    → IsCipherKey kek → IsSecret key.sak → mi ≡ key.id.server
    → IsGift kek mi (given_as kek key) gift → IsGiftOf (install_by s key) gift
gift-of one kek mi s key gift is_key is server g = record {
  id = g.named ∙ (λ i. record { server = server i; number = key.id.number });
  an = g.under;
  sak = hidden-sak one kek key.sak gift.sak is_key is g.hides;
  opens = ap is_open g.protects ∙ opens-by key.conf;
}

-- ---- the key that is given was made

-- a stepped, fresh and unforged run
pub record IsSound (settings : Settings) (users : List UserFrame) (r : Run) : Type 0 where
  pub stepped : IsStepped settings users r
  pub fresh : IsFresh r
  pub unforged : IsUnforged settings r

pub same-as-made : (settings : Settings) (users : List UserFrame) (r : Run) (i : Install) (gift : Gift)
    → IsSound settings users r → In i (installs r) → IsGiftOf i gift → GivesMade r gift
same-as-made settings users r i gift run there g =
    let d = run-drawn settings users r (known settings users r run.stepped run.unforged) run.fresh i
    (in-contains (installs r) i there) in
    record {
      made = d.0;
      there = d.1.made_there;
      is = record {
        id = g.id ∙ sym d.1.id;
        an = g.an ∙ sym d.1.an;
        sak = g.sak ∙ ap Ok (sym d.1.sak);
        opens = g.opens;
      };
    }

-- the keys of a station behind what it does at a tick
pub keys-sound : (settings : Settings) (users : List UserFrame) (s next : ℕ) (f : List Fact) (r : Run) (l : Life)
    → IsTick settings users s next f r l
    → AreSound l.member.base l.member.mi (ticks r + 1)
    (view l.member (ticked_past l.member (seen_by settings s next r l) (sak_in f) l.past)).keys
keys-sound settings users s next f r l t =
    subst (AreSound m.base m.mi (ticks r + 1))
    (sym (view-keys m (ticked_past m (seen_by settings s next r l) (sak_in f) l.past)))
    (tick-sound m (seen_by settings s next r l) (sak_in f) l.past (ticks r) ready
    (λ key made. secret-of settings users s next f r l key t made))
  where
    m : Member
    m = l.member

    k : IsKnown settings users r
    k = known settings users r t.stepped.1 t.unforged.1

    v : IsLiving settings r s l
    v = k.living s l t.living

    few : 1 + ticks r ≤ most_ticks
    few = t.stepped.0.within.ticks

    ready : IsReady m l.past (ticks r)
    ready = record { mi = v.mi; keys = v.keys; few = omega (arith, few) }

-- what is given is the latest key of the station, which the run installed
pub record IsLatestGift (settings : Settings) (s next : ℕ) (f : List Fact) (r : Run) (l : Life)
    (gift : Gift) : Type 0 where
  pub key : Key
  pub last : latest (view l.member
      (ticked_past l.member (seen_by settings s next r l) (sak_in f) l.past)).keys ≡ Some key
  pub there : In (install_by s key) (installs (happened (events.Tick s next) f ∷ r))
  pub is : IsGiftOf (install_by s key) gift

pub gives-latest : OneWrap → (settings : Settings) (users : List UserFrame) (s next : ℕ) (f : List Fact)
    (r : Run) (l : Life) (a : Announcement) (gift : Gift)
    → IsTick settings users s next f r l → said_by settings s next f r l ≡ Some a
    → Gives (group_kek settings) a (Some gift) → IsLatestGift settings s next f r l gift
gives-latest one settings users s next f r l a gift t said gives =
    go (given m (view m q)) refl
    (subst (λ w. GivesBy w a.mi a.given (Some gift)) (sym kek) gives)
  where
    m : Member
    m = l.member

    p : List Entry
    p = l.past

    seen : Seen
    seen = seen_by settings s next r l

    q : List Entry
    q = ticked_past m seen (sak_in f) p

    k : IsKnown settings users r
    k = known settings users r t.stepped.1 t.unforged.1

    v : IsLiving settings r s l
    v = k.living s l t.living

    kek : m.setup.kek ≡ group_kek settings
    kek = ap (λ (w : Setup). w.kek) v.setup

    is_key : IsCipherKey m.setup.kek
    is_key = subst IsCipherKey (sym kek) (kek-key settings t.stepped.0.setting)

    now : announcement m (tick_lowest m seen p) (view m q) ≡ a
    now = said-now m (tick_lowest m seen p) q (view m q) a said

    sound : AreSound m.base m.mi (ticks r + 1) (view m q).keys
    sound = keys-sound settings users s next f r l t

    there : (key : Key) → latest (view m q).keys ≡ Some key
        → In (install_by s key) (installs (happened (events.Tick s next) f ∷ r))
    there key last =
        subst (λ w. In (install_by s key) w)
        (sym (installs-next (happened (events.Tick s next) f) r (gist-of settings users s next f r l t)))
        (tick-backed m seen (sak_in f) p s (installs r) v.backed key
        (latest-installed (keys_of m q) key (ap latest (sym (view-keys m q)) ∙ last)))

    of-key : (g : Given) → given m (view m q) ≡ Some g → IsGift m.setup.kek a.mi g gift
        → IsLatestGift settings s next f r l gift
    of-key g e is =
        let by = given-is m (view m q) g e in
        let key = by.key in
        let kept = installed-key m.base (view m q).keys key sound.keys
        (latest-installed (view m q).keys key by.last) in
        let made = last-made (view m q).keys key by.roster
        (latest-last m.base (view m q).keys key sound.keys by.last) by.made_here in
        let own = made-own m.mi (view m q).keys _ sound.numbered made in
        record {
          key = key;
          last = by.last;
          there = there key by.last;
          is = gift-of one m.setup.kek a.mi s key gift is_key kept.sak
              (sym (ap (λ (w : Announcement). w.mi) now) ∙ sym own)
              (subst (λ w. IsGift m.setup.kek a.mi w gift) by.same is);
        }

    go : (o : Option Given) → given m (view m q) ≡ o → GivesBy m.setup.kek a.mi a.given (Some gift)
        → IsLatestGift settings s next f r l gift
    go None e given_by =
        absurd (subst (λ w. GivesBy m.setup.kek a.mi w (Some gift))
        (sym (ap (λ (w : Announcement). w.given) now) ∙ e) given_by)
    go (Some g) e given_by =
        of-key g e (subst (λ w. GivesBy m.setup.kek a.mi w (Some gift))
        (sym (ap (λ (w : Announcement). w.given) now) ∙ e) given_by)

-- what an announcement gives is a key that the run made
pub gives-made : OneWrap → (settings : Settings) (users : List UserFrame) (s next : ℕ) (f : List Fact)
    (r : Run) (l : Life) (a : Announcement) (gift : Gift)
    → IsTick settings users s next f r l → said_by settings s next f r l ≡ Some a
    → Gives (group_kek settings) a (Some gift) → GivesMade (happened (events.Tick s next) f ∷ r) gift
gives-made one settings users s next f r l a gift t said gives =
    let g = gives-latest one settings users s next f r l a gift t said gives in
    same-as-made settings users (happened (events.Tick s next) f ∷ r) (install_by s g.key) gift
    (record { stepped = t.stepped; fresh = t.fresh; unforged = t.unforged }) g.there g.is
