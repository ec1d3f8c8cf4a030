-- The numbers of the keys that a life gives do not fall: each is how many keys the life had made.
use Rattle.std.proofs.Common.{◌≡◌, ◌≤◌, refl, sym, ap, ◌∙◌, inl, inr, ℕ, List, [], ◌∷◌}
use Rattle.std.proofs.Common.{Bool, true, false, cond, Option, Some, None, arith}
use Rattle.std.specs.Prelude.{◌==◌, ◌&&◌, is_some, nat_lt}
use Rattle.std.specs.List.{list_any}
use Rattle.std.proofs.lemmas.Bool.{and_parts, le-ltb}
use Rattle.lan_base.specs.Identifiers.{same_mi}
use Rattle.lan_base.specs.declared.address.Mi.{Mi}
use Rattle.lan_base.specs.declared.frame.UserFrame.{UserFrame}
use Rattle.member_notes.specs.Facts.{by, gives_back, gives_key, is_any, is_new, member_of, member_told, number_given, numbers_given, Test, times}
use Rattle.member_notes.specs.declared.facts.Member.{Member as Told}
use Rattle.member_notes.specs.Mkpdus.{is_of}
use Rattle.member_notes.specs.Spoken.{Spoken}
use Rattle.mkpdu_codec.specs.declared.announcement.Announcement.{Announcement}
use Rattle.mkpdu_codec.specs.declared.given.Given.{Given}
use Rattle.peer_lists.proofs.Public.{same_mi-equal}
use Rattle.sak_exchange.specs.declared.held_key.Key.{Key}
use Rattle.sak_exchange.specs.Beginning.{Beginning}
use Rattle.sak_exchange.specs.Histories.{began, installed, Keying, last_key, last_roster, made_count, ticked}
use Rattle.sak_exchange.specs.Lives.{IsNumbered}
use Rattle.mka_station.specs.Announcing.{given}
use Rattle.mka_station.specs.Lives.{Entry, keys_of, Member}
use Rattle.mka_station.specs.Tick.{says_at, ticked_past, with_sent}
use Rattle.mka_station.specs.Views.{view}
use Rattle.lan_core.specs.declared.event.Event.TheVariants as events
use Rattle.lan_core.specs.declared.fact.Fact.{Fact}
use Rattle.lan_core.specs.declared.settings.Settings.{Settings}
use Rattle.lan_core.specs.Run.{happened, Happening, Run}
use Rattle.lan_core.specs.Fresh.{IsFresh}
use Rattle.lan_core.specs.Legal.{IsStep}
use Rattle.lan_core.specs.Lives.{Life, lived, sak_in, turn_at_tick}
use Rattle.group_safety.proofs.Public.{given-is, hear-is_turn, In, in-from_map, IsTurn, latest-last, none-some}
use Rattle.group_safety.proofs.Public.{said-now, some-same, tick-is_turn, tick_lowest, turn-past}
use Rattle.group_safety.proofs.Public.{view-keys, with_began, with_key, with_tick}
use Rattle.clean_audits.proofs.GivenKeys.{IsTick, said_by, seen_by}
use Rattle.clean_audits.proofs.Gifts.{keys-sound}
use Rattle.clean_audits.proofs.Rising.{below-later, below-now, IsBelow, Rises}

-- ---- how many keys a life made

count-tick : (t : Option Bool) (h : List Keying) → made_count h ≤ made_count (with_tick t h)
count-tick None h = omega arith
count-tick (Some s) h = omega arith

count-began : (b : Option Beginning) (h : List Keying) → made_count h ≤ made_count (with_began b h)
count-began None h = omega arith
count-began (Some b) h = omega arith

count-key : (r : Option (List Mi)) (k : Option Key) (h : List Keying)
    → made_count h ≤ made_count (with_key r k h)
count-key r None h = omega arith
count-key None (Some k) h = omega arith
count-key (Some r) (Some k) h = omega arith

turn-makes : (base : ℕ) (h g : List Keying) → IsTurn base h g → made_count h ≤ made_count g
turn-makes base h g t =
    let h1 = with_tick t.tick h in
    let h2 = with_began t.lead h1 in
    let h3 = with_key t.roster t.key h2 in
    let a = count-tick t.tick h in
    let b = count-began t.lead h1 in
    let c = count-key t.roster t.key h2 in
    let d = count-began t.follow h3 in
    let whole = ap made_count t.whole in
    omega (arith, a, b, c, d, whole)

-- the number of the last key, where the life made it
last-number : (own : Mi) (h : List Keying) (k : Key) (ms : List Mi) → IsNumbered own h
    → last_key h ≡ Some k → last_roster h ≡ Some ms → k.id.number ≡ made_count h
last-number own [] k ms v last made = absurd (cc last)
last-number own (ticked s ∷ h) k ms v last made = last-number own h k ms v last made
last-number own (installed None n ∷ h) k ms v last made = absurd (cc made)
last-number own (installed (Some r) n ∷ h) k ms v last made =
    let same : n ≡ k = cc last in
    sym (ap (λ (w : Key). w.id.number) same) ∙ v.1
last-number own (began e ∷ h) k ms v last made = last-number own h k ms v last made

abbrev pub keys_made : Life → ℕ
keys_made l = made_count (keys_of l.member l.past)

keys-rise : Rises keys_made
keys-rise = record {
  ticking = λ settings s next r f l.
      turn-makes l.member.base _ _ (tick-is_turn l.member (seen_by settings s next r l) (sak_in f) l.past);
  hearing = λ l a. turn-makes l.member.base _ _ (hear-is_turn l.member a l.past);
}

-- ---- what a tick gives

keys-sent : (m : Member) (o : Option Announcement) (q : List Entry) → keys_of m (with_sent o q) ≡ keys_of m q
unfolding keys_of
keys-sent m None q = refl
keys-sent m (Some a) q = refl

-- a tick at which a station says something
module _ (settings : Settings) (users : List UserFrame) (s next : ℕ) (f : List Fact) (r : Run) (l : Life)
    (a : Announcement) (t : IsTick settings users s next f r l) (said : said_by settings s next f r l ≡ Some a) where
  abbrev past : List Entry
  past = ticked_past l.member (seen_by settings s next r l) (sak_in f) l.past

  abbrev now : Life
  now = lived l (turn_at_tick settings s r l next (sak_in f))

  made-now : keys_made now ≡ made_count (keys_of l.member past)
  made-now =
      ap (λ p. made_count (keys_of l.member p)) (turn-past l.member (seen_by settings s next r l) (sak_in f) l.past)
      ∙ ap made_count
      (keys-sent l.member (says_at l.member (seen_by settings s next r l) (sak_in f) l.past) past)

  gives : given l.member (view l.member past) ≡ a.given
  gives = ap (λ (w : Announcement). w.given)
      (said-now l.member (tick_lowest l.member (seen_by settings s next r l) l.past) past (view l.member past) a said)

  -- the key that is given is the last one that the life made
  number-now : (g : Given) → given l.member (view l.member past) ≡ Some g → g.number ≡ keys_made now
  number-now g e =
      let by = given-is l.member (view l.member past) g e in
      let sound = keys-sound settings users s next f r l t in
      let h = (view l.member past).keys in
      ap (λ (x : Given). x.number) by.same
      ∙ last-number l.member.mi h by.key by.roster sound.numbered
      (latest-last l.member.base h by.key sound.keys by.last) by.made_here
      ∙ ap made_count (view-keys l.member past) ∙ sym made-now

  number-most : (o : Option Given) → given l.member (view l.member past) ≡ o → number_given o ≤ keys_made now
  number-most None e = omega arith
  number-most (Some g) e = let same = number-now g e in omega (arith, same)

  number-least : (n : ℕ) (o : Option Given) → given l.member (view l.member past) ≡ o → is_some o ≡ true
      → n ≤ keys_made l → n ≤ number_given o
  number-least n None e some less = absurd (cc some)
  number-least n (Some g) e some less =
      let same = number-now g e in
      let more = keys-rise.ticking settings s next r f l in
      omega (arith, same, more, less)

  pub given-now : a.mi ≡ l.member.mi
      → IsBelow keys_made settings (happened (events.Tick s next) f ∷ r) a.mi (number_given a.given)
  given-now mi =
      below-now keys_made settings users s next f r l a.mi (number_given a.given) t mi (number-most a.given gives)

  pub given-most : (n : ℕ) → a.mi ≡ l.member.mi → IsBelow keys_made settings r a.mi n → is_some a.given ≡ true
      → n ≤ number_given a.given
  given-most n mi below some = number-least n a.given gives some (below.below s l t.living (sym mi))

-- the number of the key that a packet gives, if it does, is not above how many keys the life of its member made
abbrev pub IsGiving : Settings → Run → Spoken → Type 0
IsGiving settings r e = IsBelow keys_made settings r e.mkpdu.mi (number_given e.said.given)

pub giving-later : (settings : Settings) (users : List UserFrame) (x : Happening) (r : Run) (e : Spoken)
    → IsStep settings users x r → IsFresh (x ∷ r) → IsGiving settings r e → IsGiving settings (x ∷ r) e
giving-later settings users x r e =
    below-later keys_made keys-rise settings users x r e.mkpdu.mi (number_given e.said.given)

-- ---- what was given before

in-by : (group : ℕ) (mi : Mi) (h : List Spoken) (test : Test) (d : Spoken) → In d (by group mi h test)
    → In d h × (is_of group mi d.mkpdu ≡ true)
in-by group mi [] test d there = elim there [ ]
in-by group mi (e ∷ h) test d there =
    go (is_of group mi e.mkpdu) (test h e) refl there (λ i. in-by group mi h test d i)
  where
    go : (b c : Bool) → is_of group mi e.mkpdu ≡ b
        → In d (cond (b && c) (e ∷ by group mi h test) (by group mi h test))
        → (In d (by group mi h test) → In d h × (is_of group mi d.mkpdu ≡ true))
        → In d (e ∷ h) × (is_of group mi d.mkpdu ≡ true)
    go true true is (inl same) later = (inl same, ap (λ (w : Spoken). is_of group mi w.mkpdu) same ∙ is)
    go true true is (inr i) later = let it = later i in (inr it.0, it.1)
    go true false is i later = let it = later i in (inr it.0, it.1)
    go false true is i later = let it = later i in (inr it.0, it.1)
    go false false is i later = let it = later i in (inr it.0, it.1)

none-above : (k : ℕ) (ns : List ℕ) → ((n : ℕ) → In n ns → n ≤ k) → list_any (λ n. nat_lt k n) ns ≡ false
none-above k [] less = refl
none-above k (n ∷ ns) less =
    rw (le-ltb k n (less n (inl refl))) (none-above k ns (λ m i. less m (inr i)))

-- it gives no key with a number below one before
pub not-back : (h : List Spoken) (e : Spoken)
    → ((d : Spoken) → In d h → d.mkpdu.mi ≡ e.mkpdu.mi → is_some e.said.given ≡ true
    → number_given d.said.given ≤ number_given e.said.given)
    → gives_back h e ≡ false
not-back h e less = go (is_new h e) (is_some e.said.given) refl
  where
    given_before : List ℕ
    given_before = numbers_given e.mkpdu.group e.mkpdu.mi h

    number : ℕ
    number = number_given e.said.given

    one : (n : ℕ) → is_some e.said.given ≡ true → In n given_before → n ≤ number
    one n some i =
        let from = in-from_map (λ (d : Spoken). number_given d.said.given)
        (by e.mkpdu.group e.mkpdu.mi h gives_key) n i in
        let at = in-by e.mkpdu.group e.mkpdu.mi h gives_key from.0 from.1 in
        let mi = and_parts (from.0.mkpdu.group == e.mkpdu.group) (same_mi from.0.mkpdu.mi e.mkpdu.mi) at.1 in
        let below = less from.0 at.0 (same_mi-equal from.0.mkpdu.mi e.mkpdu.mi mi.1) some in
        let same = from.2 in
        omega (arith, below, same)

    go : (b c : Bool) → is_some e.said.given ≡ c
        → ((b && c) && list_any (λ n. nat_lt number n) given_before) ≡ false
    go true true some = none-above number given_before (λ n i. one n some i)
    go true false some = refl
    go false true some = refl
    go false false some = refl

-- ---- what is told of each member

abbrev pub NoneReturns : List Spoken → Type 0
NoneReturns [] = Unit {0}
NoneReturns (e ∷ h) = (gives_back h e ≡ false) × NoneReturns h

none-by : (group : ℕ) (mi : Mi) (h : List Spoken) → NoneReturns h → by group mi h gives_back ≡ []
none-by group mi [] none = refl
none-by group mi (e ∷ h) none =
    go (is_of group mi e.mkpdu) (gives_back h e) none.0 (none-by group mi h none.1)
  where
    go : (b c : Bool) → c ≡ false → by group mi h gives_back ≡ []
        → cond (b && c) (e ∷ by group mi h gives_back) (by group mi h gives_back) ≡ []
    go true true is later = absurd (cc is)
    go true false is later = later
    go false true is later = later
    go false false is later = later

pub none-returned : (group : ℕ) (mi : Mi) (m : Told) (h : List Spoken) → NoneReturns h
    → member_told group mi h ≡ Some m → m.counts.returned.count ≡ 0
none-returned group mi m h none told = go (by group mi h is_any) told
  where
    go : (es : List Spoken) → member_of group mi (by group mi h) es ≡ Some m → m.counts.returned.count ≡ 0
    go [] is = absurd (none-some is)
    go (e ∷ es) is =
        sym (ap (λ (w : Told). w.counts.returned.count) (some-same is))
        ∙ ap (λ ds. (times ds).count) (none-by group mi h none)
