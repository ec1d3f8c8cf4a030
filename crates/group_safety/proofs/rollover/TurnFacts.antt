-- What the facts of a turn come from.
use Rattle.std.proofs.Common.{◌≡◌, inl, inr, ℕ, true, false, List, [], ◌∷◌, ◌++◌, map, refl, ap}
use Rattle.std.proofs.Common.{sym, ◌∙◌}
use Rattle.std.proofs.Common.{Option, Some, None, Result, Ok, Err}
use Rattle.std.specs.Prelude.{option_map, option_to_list}
use Rattle.std.specs.List.{filter}
use Rattle.lan_base.specs.declared.association_number.AssociationNumber.{AssociationNumber}
use Rattle.lan_base.specs.declared.address.Mi.{Mi}
use Rattle.lan_base.specs.declared.key_id.KeyId.{KeyId}
use Rattle.aes_block.specs.declared.secret.Secret.{Secret}
use Rattle.mkpdu_codec.specs.declared.announcement.Announcement.{Announcement}
use Rattle.sak_exchange.specs.declared.change.Cause.{Cause}
use Rattle.sak_exchange.specs.declared.change.Change.{Change}
use Rattle.sak_exchange.specs.declared.change.Change.TheVariants as changes
use Rattle.sak_exchange.specs.declared.change.Why.{Why}
use Rattle.sak_exchange.specs.declared.due.Seen.{Seen}
use Rattle.sak_exchange.specs.declared.held_key.HeldKey.{HeldKey}
use Rattle.sak_exchange.specs.declared.offer.Offer.{Offer}
use Rattle.sak_exchange.specs.declared.held_key.Key.{Key}
use Rattle.sak_exchange.specs.Histories.{Keying}
use Rattle.sak_exchange.specs.Held.{received, held, shown, ends}
use Rattle.sak_exchange.specs.Beginning.{Beginning, retired}
use Rattle.sak_exchange.specs.Outcomes.{beginning}
use Rattle.mka_station.specs.declared.reaction.Reaction.{Reaction}
use Rattle.mka_station.specs.declared.verdict.Verdict.{Verdict}
use Rattle.mka_station.specs.Lives.{Member, Entry, ticked, heard}
use Rattle.mka_station.specs.Views.{view}
use Rattle.mka_station.specs.Tick.{tick_turn, led, made, ended, install_changes}
use Rattle.mka_station.specs.Hearing.{hear_turn, key_taken, take_changes}
use Rattle.mka_station.specs.Hearing.{offer_at, answer_at, follow_at}
use Rattle.lan_core.specs.declared.fact.Fact.{Fact}
use Rattle.lan_core.specs.declared.fact.Fact.TheVariants as facts
use Rattle.lan_core.specs.Expected.{change_fact, reaction_facts}
use Rattle.group_safety.proofs.Members.{In, in-either, in-from_map, in-option, by_sum}

-- where a fact of a reaction comes from
pub data Reacts (s h n : ℕ) (re : Reaction) (f : Fact) : Type 0 where
  hears : (v : Verdict) → f ≡ facts.HeardMka h s v → Reacts s h n re f
  serves : (m : Option Mi) → f ≡ facts.Server s m → Reacts s h n re f
  alters : (c : Change) → In c re.changes → f ≡ change_fact s c → Reacts s h n re f
  sends : (octets : List ℕ) → re.sent ≡ Some octets → f ≡ facts.Framed n s false octets
      → Reacts s h n re f

pub reacts : (s h n : ℕ) (re : Reaction) (f : Fact) → In f (reaction_facts s h n re)
    → Reacts s h n re f
reacts s h n re f i =
    let first = option_to_list (option_map (λ v. facts.HeardMka h s v) re.heard) in
    let second = option_to_list (option_map (λ m. facts.Server s m) re.server) in
    let third = map (change_fact s) re.changes in
    let last = option_to_list (option_map (λ octets. facts.Framed n s false octets) re.sent) in
    by_sum (in-either first (second ++ (third ++ last)) f i)
    (λ a. let r = in-option (λ v. facts.HeardMka h s v) re.heard f a in hears r.0 r.2)
    (λ b. by_sum (in-either second (third ++ last) f b)
    (λ a. let r = in-option (λ m. facts.Server s m) re.server f a in serves r.0 r.2)
    (λ d. by_sum (in-either third last f d)
    (λ a. let r = in-from_map (change_fact s) re.changes f a in alters r.0 r.1 r.2)
    (λ a. let r = in-option (λ octets. facts.Framed n s false octets) re.sent f a in
    sends r.0 r.1 r.2)))

-- a change that takes a key away, or none
pub data IsRemoval (c : Change) : Type 0 where
  drops : (k : HeldKey) → c ≡ changes.Dropped k → IsRemoval c
  retires : (k : HeldKey) → c ≡ changes.Retired k → IsRemoval c
  refuses : (id : KeyId) (why : Why) → c ≡ changes.Untaken id why → IsRemoval c

-- a change of a turn in which this key begins, and this one is installed, if they do
pub data Alters (lead : Option Beginning) (key : Option Key) (c : Change) : Type 0 where
  removes : IsRemoval c → Alters lead key c
  begins : (b : Beginning) → lead ≡ Some b → c ≡ changes.Began (shown true b.key) b.cause
      → Alters lead key c
  installs : (k : Key) → key ≡ Some k → c ≡ changes.Installed (shown false k) → Alters lead key c

in-dropped : {A : Type 0} (f : A → HeldKey) (c : Change) (ks : List A)
    → In c (map (λ k. changes.Dropped (f k)) ks) → IsRemoval c
in-dropped f c ks i = let r = in-from_map (λ k. changes.Dropped (f k)) ks c i in drops (f r.0) r.2

in-ended : (h : List Keying) (server : Option Mi) (c : Change) → In c (ended h server) → IsRemoval c
in-ended h None c i = in-dropped (held h) c (received h) i
in-ended h (Some server) c i = let r =
    in-option (λ k. changes.Retired (held h k)) (retired h) c i in retires (held h r.0) r.2

in-begun : (h : List Keying) (o : Option Beginning) (key : Option Key) (c : Change)
    → In c (beginning h o).changes → Alters o key c
in-begun h None key c i = absurd i
in-begun h (Some b) key c (inl e) = begins b refl e
in-begun h (Some b) key c (inr i) = absurd i

in-installed : (h : List Keying) (r : Option (List Mi)) (k : Key) (lead : Option Beginning)
    (c : Change)
    → In c (map (λ j. changes.Dropped (held h j))
    (filter (ends (Rattle.sak_exchange.specs.Histories.installed r k) h) (received h)) ++
    changes.Installed (shown false k) ∷ [])
    → Alters lead (Some k) c
in-installed h r k lead c i =
    by_sum (in-either (map (λ j. changes.Dropped (held h j))
    (filter (ends (Rattle.sak_exchange.specs.Histories.installed r k) h) (received h)))
    (changes.Installed (shown false k) ∷ []) c i)
    (λ a. removes (in-dropped (held h) c _ a))
    (λ a. elim a [ inl e ↦ installs k refl e | inr none ↦ absurd none ])

in-key : (h : List Keying) (r : Option (List Mi)) (key : Option Key) (lead : Option Beginning)
    (c : Change)
    → In c (install_changes h r key) → Alters lead key c
in-key h r None lead c i = absurd i
in-key h r (Some k) lead c i = in-installed h r k lead c i

pub tick-alters : (m : Member) (seen : Seen) (sak : Secret) (p : List Entry) (c : Change)
    → In c (tick_turn m seen sak p).reaction.changes
    → Alters (led m (view m (ticked ∷ p))) (made m (view m (ticked ∷ p)) seen sak) c
unfolding tick_turn
tick-alters m seen sak p c i =
    let v1 = view m (ticked ∷ p) in
    let first = ended (view m p).keys v1.server in
    let second = (beginning v1.keys (led m v1)).changes in
    let third = install_changes v1.keys (Rattle.mka_station.specs.Tick.roster_at m p)
    (made m v1 seen sak) in
    by_sum (in-either first (second ++ third) c i)
    (λ a. removes (in-ended (view m p).keys v1.server c a))
    (λ b. by_sum (in-either second third c b)
    (λ a. in-begun v1.keys (led m v1) (made m v1 seen sak) c a)
    (λ a. in-key v1.keys (Rattle.mka_station.specs.Tick.roster_at m p) (made m v1 seen sak)
    (led m v1) c a))

in-taken : (h : List Keying) (o : Option Offer) (answer : Option (Result Key Why))
    (follow : Option Beginning) (c : Change)
    → In c (take_changes h o answer) → Alters follow (key_taken answer) c
in-taken h None answer follow c i = absurd i
in-taken h (Some o) None follow c i = absurd i
in-taken h (Some o) (Some (Ok k)) follow c i = in-installed h None k follow c i
in-taken h (Some o) (Some (Err why)) follow c (inl e) = removes (refuses _ why e)
in-taken h (Some o) (Some (Err why)) follow c (inr i) = absurd i

pub hear-alters : (m : Member) (a : Announcement) (p : List Entry) (c : Change)
    → In c (hear_turn m a p).reaction.changes
    → Alters (follow_at m a p) (key_taken (answer_at m a p)) c
unfolding hear_turn
hear-alters m a p c i =
    let v1 = view m (heard a ∷ p) in
    let first = take_changes v1.keys (offer_at m a p) (answer_at m a p) in
    by_sum (in-either first (beginning
    (view m (Rattle.mka_station.specs.Hearing.taken_past m a p)).keys
    (follow_at m a p)).changes c i)
    (λ b. in-taken v1.keys (offer_at m a p) (answer_at m a p) (follow_at m a p) c b)
    (λ b. in-begun (view m (Rattle.mka_station.specs.Hearing.taken_past m a p)).keys
    (follow_at m a p) (key_taken (answer_at m a p)) c b)

-- ---- by the kind of fact

-- a key that begins
pub record IsBegun (lead : Option Beginning) (id : KeyId) (epoch : ℕ) (cause : Cause) : Type 0 where
  pub by : Beginning
  pub begins_now : lead ≡ Some by
  pub id_is : by.key.id ≡ id
  pub epoch_is : by.key.epoch ≡ epoch
  pub cause_is : by.cause ≡ cause

removed-begins : (s t : ℕ) (id : KeyId) (an : AssociationNumber) (epoch : ℕ) (cause : Cause)
    (c : Change) → IsRemoval c
    → facts.Began t id an epoch cause ≡ change_fact s c → ⊥
removed-begins s t id an epoch cause c (drops k e) f = let g = f ∙ ap (change_fact s) e in cc (g)
removed-begins s t id an epoch cause c (retires k e) f = let g = f ∙ ap (change_fact s) e in cc (g)
removed-begins s t id an epoch cause c (refuses i w e) f = let g = f ∙ ap (change_fact s) e in
    cc (g)

altered-begins : (s t : ℕ) (id : KeyId) (an : AssociationNumber) (epoch : ℕ) (cause : Cause)
    (lead : Option Beginning)
    (key : Option Key) (c : Change)
    → Alters lead key c → facts.Began t id an epoch cause ≡ change_fact s c
    → (t ≡ s) × IsBegun lead id epoch cause
altered-begins s t id an epoch cause lead key c (removes r) f =
    absurd (removed-begins s t id an epoch cause c r f)
altered-begins s t id an epoch cause lead key c (begins b is e) f =
    let g : facts.Began t id an epoch cause ≡ facts.Began s b.key.id b.key.an b.key.epoch b.cause =
    f ∙ ap (change_fact s) e in (
      let h : t ≡ s = cc (g) in h,
      record {
        by = b;
        begins_now = is;
        id_is =
            (let h : id ≡ b.key.id = cc (g) in sym h);
        epoch_is =
            (let h : epoch ≡ b.key.epoch = cc (g) in sym h);
        cause_is =
            (let h : cause ≡ b.cause = cc (g) in sym h);
      },
    )
altered-begins s t id an epoch cause lead key c (installs k is e) f = let g = f
    ∙ ap (change_fact s) e in absurd (cc (g))

-- a key that is installed
pub record IsPut (key : Option Key) (id : KeyId) (an : AssociationNumber) (epoch : ℕ)
    (sak : Secret) : Type 0 where
  pub this : Key
  pub put : key ≡ Some this
  pub id_is : this.id ≡ id
  pub an_is : this.an ≡ an
  pub epoch_is : this.epoch ≡ epoch
  pub sak_is : this.sak ≡ sak

removed-puts : (s t : ℕ) (id : KeyId) (an : AssociationNumber) (epoch : ℕ) (sak : Secret)
    (c : Change) → IsRemoval c
    → facts.Installed t id an epoch sak ≡ change_fact s c → ⊥
removed-puts s t id an epoch sak c (drops k e) f = let g = f ∙ ap (change_fact s) e in cc (g)
removed-puts s t id an epoch sak c (retires k e) f = let g = f ∙ ap (change_fact s) e in cc (g)
removed-puts s t id an epoch sak c (refuses i w e) f = let g = f ∙ ap (change_fact s) e in cc (g)

altered-puts : (s t : ℕ) (id : KeyId) (an : AssociationNumber) (epoch : ℕ) (sak : Secret)
    (lead : Option Beginning)
    (key : Option Key) (c : Change)
    → Alters lead key c → facts.Installed t id an epoch sak ≡ change_fact s c
    → (t ≡ s) × IsPut key id an epoch sak
altered-puts s t id an epoch sak lead key c (removes r) f =
    absurd (removed-puts s t id an epoch sak c r f)
altered-puts s t id an epoch sak lead key c (begins b is e) f = let g = f ∙ ap (change_fact s) e in
    absurd (cc (g))
altered-puts s t id an epoch sak lead key c (installs k is e) f =
    let g : facts.Installed t id an epoch sak ≡ facts.Installed s k.id k.an k.epoch k.sak = f
    ∙ ap (change_fact s) e in (
      let h : t ≡ s = cc (g) in h,
      record {
        this = k;
        put = is;
        id_is = (let h : id ≡ k.id = cc (g) in sym h);
        an_is = (let h : an ≡ k.an = cc (g) in sym h);
        epoch_is = (let h : epoch ≡ k.epoch = cc (g) in sym h);
        sak_is = (let h : sak ≡ k.sak = cc (g) in sym h);
      },
    )

pub reacts-begins : (s h n t : ℕ) (id : KeyId) (an : AssociationNumber) (epoch : ℕ) (cause : Cause)
    (re : Reaction)
    (lead : Option Beginning) (key : Option Key)
    → ((c : Change) → In c re.changes → Alters lead key c)
    → Reacts s h n re (facts.Began t id an epoch cause)
    → (t ≡ s) × IsBegun lead id epoch cause
reacts-begins s h n t id an epoch cause re lead key each (hears v e) = absurd (cc (e))
reacts-begins s h n t id an epoch cause re lead key each (serves m e) = absurd (cc (e))
reacts-begins s h n t id an epoch cause re lead key each (alters c i e) =
    altered-begins s t id an epoch cause lead key c (each c i) e
reacts-begins s h n t id an epoch cause re lead key each (sends octets is e) = absurd (cc (e))

pub reacts-puts : (s h n t : ℕ) (id : KeyId) (an : AssociationNumber) (epoch : ℕ) (sak : Secret)
    (re : Reaction)
    (lead : Option Beginning) (key : Option Key)
    → ((c : Change) → In c re.changes → Alters lead key c)
    → Reacts s h n re (facts.Installed t id an epoch sak)
    → (t ≡ s) × IsPut key id an epoch sak
reacts-puts s h n t id an epoch sak re lead key each (hears v e) = absurd (cc (e))
reacts-puts s h n t id an epoch sak re lead key each (serves m e) = absurd (cc (e))
reacts-puts s h n t id an epoch sak re lead key each (alters c i e) =
    altered-puts s t id an epoch sak lead key c (each c i) e
reacts-puts s h n t id an epoch sak re lead key each (sends octets is e) = absurd (cc (e))
