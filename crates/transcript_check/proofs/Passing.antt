-- The lines of a legal run are taken, one after another.
use Rattle.std.proofs.Common.{◌≡◌, ◌≢◌, ◌∙◌, ◌<◌, ◌≤◌, ◌⊎◌, inl, inr, ℕ, Bool, true, false, cond, List, [], ◌∷◌, ◌++◌, map, length, Option, Some, None, refl, sym, ap, subst, arith, append_assoc}
use Rattle.std.specs.Prelude.{All, ◌==◌, ◌&&◌, option_map, option_to_list, is_some, IsTrue, Contains}
use Rattle.std.specs.Option.{option_or}
use Rattle.std.proofs.lemmas.Bool.{and_parts, eqb-true, eq-eqb}
use Rattle.std.proofs.lemmas.List.{append-nil, length-append, length-map, map-append}
use Rattle.std.proofs.lemmas.List.Elements.{All-nil, All-cons, All-head, All-tail, All-append}
use Rattle.aes_block.specs.declared.secret.Secret.{Secret}
use Rattle.aes_block.specs.Secrets.{secret_octets}
use Rattle.lan_base.specs.declared.address.Mi.{Mi}
use Rattle.lan_base.specs.declared.address.Sci.{Sci}
use Rattle.lan_base.specs.declared.association_number.AssociationNumber.{AssociationNumber}
use Rattle.lan_base.specs.declared.frame.UserFrame.{UserFrame}
use Rattle.lan_base.specs.declared.name.Name.{Name}
use Rattle.lan_base.specs.Differing.{AllDiffer}
use Rattle.lan_base.specs.Name.{IsName}
use Rattle.gcm_frames.specs.Tags.{is_sec}
use Rattle.rx_slots.specs.Numbers.{answer}
use Rattle.sak_exchange.specs.declared.change.Change.{Change}
use Rattle.sak_exchange.specs.declared.change.Change.TheVariants as changes
use Rattle.sak_exchange.specs.declared.held_key.Key.{Key}
use Rattle.sak_exchange.proofs.Public.{find-passes}
use Rattle.mka_station.specs.declared.reaction.Reaction.{Reaction}
use Rattle.mka_station.specs.Hearing.{frame_turn}
use Rattle.mka_station.specs.Restart.{ending}
use Rattle.mka_station.specs.Tick.{tick_turn}
use Rattle.lan_core.specs.declared.event.Event.{Event}
use Rattle.lan_core.specs.declared.event.Event.TheVariants as events
use Rattle.lan_core.specs.declared.fact.Fact.{Fact}
use Rattle.lan_core.specs.declared.fact.Fact.TheVariants as shows
use Rattle.lan_core.specs.declared.settings.Settings.{Settings}
use Rattle.lan_core.specs.Run.{Run, Happening, Profile, happened, facts_of, place, started, stations}
use Rattle.lan_core.specs.Ledgers.{gather, with_one, Install, install_of, installs, install_at, Claim, claim_of, claims, frame_at, next_frame}
use Rattle.lan_core.specs.Lives.{Life, life, drawn_mi, sak_in as drawn_sak_in, seen_at, transmitting_at, receiving}
use Rattle.lan_core.specs.Claims.{waiting, frame_of_claim}
use Rattle.lan_core.specs.Counted.{AreCounted}
use Rattle.lan_core.specs.Expected.{expected, change_fact, reaction_facts, tick_facts, reached_facts, restart_facts, claim_fact, number_fact, lack, emit_facts}
use Rattle.lan_core.specs.Fresh.{IsFresh, IsUnforged}
use Rattle.lan_core.specs.Legal.{IsStep, IsStepped}
use Rattle.lan_core.specs.Places.{names, ArePlaced}
use Rattle.lan_core.specs.TypedFacts.{IsTypedFact}
use Rattle.lan_core.proofs.Public.{mapped, chained}
use Rattle.group_safety.specs.Once.{sak_of, sci_of}
use Rattle.group_safety.proofs.Public.{In, in-contains, in-find}
use Rattle.transcript.specs.Rendering.{line, IsFact}
use Rattle.transcript_check.specs.Judged.{sak_here, sak_in}
use Rattle.transcript_check.specs.declared.fault.CheckFault.TheVariants.{Doubled}
use Rattle.transcript_check.specs.Standing.{refusal, no_epoch}
use Rattle.transcript_check.proofs.OneGroup.{AreTakenAlone}
use Rattle.transcript_check.proofs.Clean.{counted-differ, collected, in-ledger, not-doubled}

-- ---- lines one after another

passes-more : (n : List Name) (f : List Fact) (ls : List (List ℕ)) (m : List Name) (g : List Fact)
    (ms : List (List ℕ)) (k : List Name) (h : List Fact)
    → AreTakenAlone n f ls m g → AreTakenAlone m g ms k h → AreTakenAlone n f (ls ++ ms) k h
passes-more n f [] m g ms k h first then =
    subst (λ n. AreTakenAlone n f ms k h) (sym first.0) (subst (λ f. AreTakenAlone m f ms k h) (sym first.1) then)
passes-more n f (l ∷ ls) m g ms k h first then = (
  first.0,
  first.1,
  first.2,
  first.3,
  passes-more first.0 (f ++ first.1 ∷ []) ls m g ms k h first.4 then,
)

-- ---- what laws give, as premises

pub record Laws (settings : Settings) (users : List UserFrame) : Type 0 where
  pub typed : (r : Run) → IsStepped settings users r → All IsTypedFact (facts_of r)
  pub placed : (x : Happening) (r : Run) → IsStep settings users x r → ArePlaced (x ∷ r) x.facts
  pub starts : (name : Name) (sci : Sci) (priority : ℕ) (shown : List Fact) (r : Run)
      → IsStep settings users (happened (events.Start name sci priority) shown) r
      → (mi : Mi) × (shown ≡ shows.Life (length (stations r)) mi ∷ [])
  pub named : (r : Run) → IsStepped settings users r → All IsName (names r) × AllDiffer (names r)
  pub counted : (r : Run) → IsStepped settings users r → AreCounted (installs r)
  pub known : (r : Run) (c : Claim) → IsStepped settings users r → IsFresh r → IsUnforged settings r
      → Contains (claims r) c → IsTrue (is_some (sak_of r c)) × IsTrue (is_some (sci_of r c.station))
  pub fresh : (x : Happening) (r : Run) → IsFresh (x ∷ r) → IsFresh r
  pub lines : (ns : List (List ℕ)) (fact : Fact) → IsTypedFact fact → place fact < length ns
      → length ns ≤ 256 → IsFact ns fact
  pub grow : (ns more : List (List ℕ)) (fact : Fact) → IsFact ns fact
      → line (ns ++ more) fact ≡ line ns fact

-- ---- a claim has its install before it

no-claim : Fact → Type 0
no-claim fact = claim_of fact ≡ None

abbrev NoClaims : List Fact → Type 0
NoClaims fs = All (λ fact. claim_of fact ≡ None) fs

changes-none : (s : ℕ) (cs : List Change) → NoClaims (map (change_fact s) cs)
changes-none s [] = All-nil (λ fact. claim_of fact ≡ None)
changes-none s (changes.Dropped h ∷ cs) =
    All-cons (λ fact. claim_of fact ≡ None) _ (map (change_fact s) cs) refl (changes-none s cs)
changes-none s (changes.Retired h ∷ cs) =
    All-cons (λ fact. claim_of fact ≡ None) _ (map (change_fact s) cs) refl (changes-none s cs)
changes-none s (changes.Began h cause ∷ cs) =
    All-cons (λ fact. claim_of fact ≡ None) _ (map (change_fact s) cs) refl (changes-none s cs)
changes-none s (changes.Installed h ∷ cs) =
    All-cons (λ fact. claim_of fact ≡ None) _ (map (change_fact s) cs) refl (changes-none s cs)
changes-none s (changes.Untaken id why ∷ cs) =
    All-cons (λ fact. claim_of fact ≡ None) _ (map (change_fact s) cs) refl (changes-none s cs)

if-none : {B : Type 0} (f : B → Fact) (o : Option B) → ((b : B) → claim_of (f b) ≡ None)
    → NoClaims (option_to_list (option_map f o))
if-none f None is = All-nil (λ fact. claim_of fact ≡ None)
if-none f (Some b) is =
    All-cons (λ fact. claim_of fact ≡ None) (f b) [] (is b) (All-nil (λ fact. claim_of fact ≡ None))

reaction-none : (s number sent : ℕ) (re : Reaction) → NoClaims (reaction_facts s number sent re)
reaction-none s number sent re =
    All-append (λ fact. claim_of fact ≡ None)
    (option_to_list (option_map (λ v. shows.HeardMka number s v) re.heard)) _
    (if-none (λ v. shows.HeardMka number s v) re.heard (λ v. refl))
    (All-append (λ fact. claim_of fact ≡ None)
    (option_to_list (option_map (λ server. shows.Server s server) re.server)) _
    (if-none (λ server. shows.Server s server) re.server (λ server. refl))
    (All-append (λ fact. claim_of fact ≡ None) (map (change_fact s) re.changes) _
    (changes-none s re.changes)
    (if-none (λ octets. shows.Framed sent s false octets) re.sent (λ octets. refl))))

reached-none : (settings : Settings) (s : ℕ) (r : Run) (number : ℕ) (octets : List ℕ) (l : Life)
    → NoClaims (reached_facts settings s r number octets l)
reached-none settings s r number octets l = go (is_sec octets)
  where
    go : (b : Bool) → NoClaims (cond b
        (shows.Arrived number s (answer l.member.setup.sci settings.window (receiving s r) octets) ∷ [])
        (reaction_facts s number 0 (frame_turn l.member octets l.past).reaction))
    go true = All-cons (λ fact. claim_of fact ≡ None) _ [] refl (All-nil (λ fact. claim_of fact ≡ None))
    go false = reaction-none s number 0 (frame_turn l.member octets l.past).reaction

-- an event shows no claim, or a claim alone
abbrev IsAlone : List Fact → Type 0
IsAlone fs = NoClaims fs ⊎ ((fact : Fact) × (fs ≡ fact ∷ []) × (install_of fact ≡ None))

claim-alone : (settings : Settings) (s : ℕ) (r : Run) (pn : ℕ) (k : Option Key)
    → (fact : Fact) × (claim_fact settings s r pn k ≡ fact) × (install_of fact ≡ None)
claim-alone settings s r pn k = go (pn == 0) k
  where
    go : (b : Bool) (j : Option Key)
        → (fact : Fact) × (cond b (shows.Unclaimed s (lack settings s r k)) (number_fact s pn j) ≡ fact)
        × (install_of fact ≡ None)
    go true j = (_, refl, refl)
    go false None = (_, refl, refl)
    go false (Some j) = (_, refl, refl)

alone : (settings : Settings) (users : List UserFrame) (e : Event) (f : List Fact) (r : Run)
    → IsStep settings users (happened e f) r → IsAlone f
unfolding expected
alone settings users (events.Start name sci priority) f r step =
    let is = mapped (λ mi. shows.Life (length (stations r)) mi ∷ []) (drawn_mi f) f step.shows in
    inl (subst NoClaims is.2 (All-cons (λ fact. claim_of fact ≡ None) _ [] refl
    (All-nil (λ fact. claim_of fact ≡ None))))
alone settings users (events.Tick s next) f r step =
    let is = mapped (tick_facts settings s r next (drawn_sak_in f)) (life settings s r) f step.shows in
    let l = is.0 in
    inl (subst NoClaims is.2 (All-cons (λ fact. claim_of fact ≡ None) _ _ refl
    (reaction-none s 0 (next_frame r)
    (tick_turn l.member (seen_at settings s r l next) (drawn_sak_in f) l.past).reaction)))
alone settings users (events.Deliver frame s) f r step =
    let there = chained (λ x. option_map (reached_facts settings s r frame x.octets) (life settings s r))
    (frame_at r frame) f step.shows in
    let is = mapped (reached_facts settings s r frame there.0.octets) (life settings s r) f there.2 in
    inl (subst NoClaims is.2 (reached-none settings s r frame there.0.octets is.0))
alone settings users (events.Restart s) f r step =
    let drew = chained (λ mi. option_map (restart_facts s mi) (life settings s r)) (drawn_mi f) f
    step.shows in
    let is = mapped (restart_facts s drew.0) (life settings s r) f drew.2 in
    inl (subst NoClaims is.2 (All-cons (λ fact. claim_of fact ≡ None) _ _ refl
    (reaction-none s 0 0 (ending is.0.member is.0.past))))
alone settings users (events.Claim s user pn) f r step =
    let is = mapped (λ l. claim_fact settings s r pn (transmitting_at settings s r) ∷ [])
    (life settings s r) f step.shows in
    let c = claim-alone settings s r pn (transmitting_at settings s r) in
    inr (c.0, sym is.2 ∙ ap (λ fact. fact ∷ []) c.1, c.2)
alone settings users events.Emit f r step =
    let there = chained (emit_facts users r) (waiting settings r) f step.shows in
    let is = mapped (λ octets. shows.Framed (next_frame r) there.0.station true octets ∷ [])
    (frame_of_claim users r there.0) f there.2 in
    inl (subst NoClaims is.2 (All-cons (λ fact. claim_of fact ≡ None) _ [] refl
    (All-nil (λ fact. claim_of fact ≡ None))))
alone settings users (events.Inject s octets) f r step =
    let is = mapped (reached_facts settings s r 0 octets) (life settings s r) f step.shows in
    inl (subst NoClaims is.2 (reached-none settings s r 0 octets is.0))

-- an install in a ledger stands in the facts
from-gather : (fs : List Fact) (xs : List Install) (i : Install) → In i (gather install_of fs xs)
    → In i xs ⊎ ((fact : Fact) × In fact fs × (install_of fact ≡ Some i))
from-gather [] xs i there = inl there
from-gather (fact ∷ fs) xs i there = elim (from-gather fs (with_one (install_of fact) xs) i there) [
  | inl here ↦ go (install_of fact) refl here
  | inr later ↦ inr (later.0, inr later.1, later.2)
]
  where
    go : (o : Option Install) → install_of fact ≡ o
        → In i (with_one o xs)
        → In i xs ⊎ ((g : Fact) × In g (fact ∷ fs) × (install_of g ≡ Some i))
    go None e at = inl at
    go (Some j) e (inl same) = inr (fact, inl refl, e ∙ ap (λ j. Some j) (sym same))
    go (Some j) e (inr at) = inl at

or-some : (a b : Option Secret) → IsTrue (is_some b) → IsTrue (is_some (option_or a b))
or-some None b is = is
or-some (Some x) b is = refl

in-sak : (fs : List Fact) (fact : Fact) (i : Install) → In fact fs → install_of fact ≡ Some i
    → IsTrue (is_some (sak_in fs i.station i.epoch))
in-sak [] fact i there is = absurd there
in-sak (g ∷ fs) fact i (inl same) is =
    go g (ap install_of (sym same) ∙ is)
  where
    go : (g : Fact) → install_of g ≡ Some i
        → IsTrue (is_some (option_or (sak_here i.station i.epoch g) (sak_in fs i.station i.epoch)))
    go (shows.Installed s id an e sak) f =
        let it : record { station = s; id = id; an = an; epoch = e; sak = sak } ≡ i = cc f in
        let one : s ≡ i.station = ap (λ (w : Install). w.station) it in
        let two : e ≡ i.epoch = ap (λ (w : Install). w.epoch) it in
        rw (eq-eqb s i.station one, eq-eqb e i.epoch two) refl
    go _ f = absurd (cc f)
in-sak (g ∷ fs) fact i (inr later) is =
    or-some (sak_here i.station i.epoch g) (sak_in fs i.station i.epoch) (in-sak fs fact i later is)

-- ---- the facts of one event

all-right : (P : Fact → Type 0) (xs ys : List Fact) → All P (xs ++ ys) → All P ys
all-right P [] ys all = all
all-right P (x ∷ xs) ys all = all-right P xs ys (All-tail P x (xs ++ ys) all)

all-middle : (P : Fact → Type 0) (pre : List Fact) (fact : Fact) (post : List Fact)
    → All P (pre ++ fact ∷ post) → P fact
all-middle P pre fact post all = All-head P fact post (all-right P pre (fact ∷ post) all)

in-middle : (pre : List Fact) (fact : Fact) (post : List Fact) → In fact (pre ++ fact ∷ post)
in-middle [] fact post = inl refl
in-middle (x ∷ pre) fact post = inr (in-middle pre fact post)

only-one : (pre : List Fact) (fact other : Fact) (post : List Fact)
    → pre ++ fact ∷ post ≡ other ∷ [] → pre ≡ []
only-one [] fact other post e = refl
only-one (x ∷ []) fact other post e = absurd (cc e)
only-one (x ∷ y ∷ pre) fact other post e = absurd (cc e)

-- the claim of a fact
claim_at : ℕ → AssociationNumber → ℕ → ℕ → Claim
claim_at s an epoch pn = record { station = s; an = an; epoch = epoch; pn = pn }

module _ (settings : Settings) (users : List UserFrame) (laws : Laws settings users) where
  -- the install of a claim stands before it
  claim-known : (x : Happening) (r : Run) (pre post : List Fact) (s : ℕ) (an : AssociationNumber)
      (epoch pn : ℕ) → IsStepped settings users (x ∷ r) → IsFresh (x ∷ r)
      → IsUnforged settings (x ∷ r) → x.facts ≡ pre ++ shows.Claimed s an epoch pn ∷ post
      → no_epoch (sak_in (facts_of r ++ pre) s epoch) ≡ None
  unfolding claims installs claim_at
  claim-known x r pre post s an epoch pn stepped fresh honest whole =
      by-kind (alone settings users x.event x.facts r stepped.0)
    where
      fact : Fact
      fact = shows.Claimed s an epoch pn

      c : Claim
      c = claim_at s an epoch pn

      there : In fact (facts_of (x ∷ r))
      there = subst (λ fs. In fact (facts_of r ++ fs)) (sym whole) (behind (facts_of r))
        where
          behind : (fs : List Fact) → In fact (fs ++ (pre ++ fact ∷ post))
          behind [] = in-middle pre fact post
          behind (f ∷ fs) = inr (behind fs)

      known : IsTrue (is_some (sak_of (x ∷ r) c))
      known = (laws.known (x ∷ r) c stepped fresh honest
          (in-contains (claims (x ∷ r)) c (in-ledger claim_of (x ∷ r) fact c there refl))).0

      some-install : (o : Option Install) → IsTrue (is_some (option_map (λ (i : Install). secret_octets i.sak) o))
          → (i : Install) × (o ≡ Some i)
      some-install None is = absurd (cc is)
      some-install (Some i) is = (i, refl)

      found : (i : Install) × (install_at s epoch (x ∷ r) ≡ Some i)
      found = some-install (install_at s epoch (x ∷ r)) known

      i : Install
      i = found.0

      both : ((i.station == s) ≡ true) × ((i.epoch == epoch) ≡ true)
      both = and_parts (i.station == s) (i.epoch == epoch)
          (find-passes (λ (j : Install). (j.station == s) && (j.epoch == epoch)) (installs (x ∷ r)) i found.1)

      in-all : In i (gather install_of x.facts (installs r))
      in-all = in-find (λ (j : Install). (j.station == s) && (j.epoch == epoch)) (installs (x ∷ r)) i found.1

      before : In i (installs r) → IsTrue (is_some (sak_in (facts_of r) s epoch))
      before at =
          elim (from-gather (facts_of r) [] i (subst (λ is. In i is) (collected install_of r) at)) [
            | inl none ↦ absurd none
            | inr told ↦
                subst (λ t. IsTrue (is_some (sak_in (facts_of r) t epoch))) (eqb-true i.station s both.0)
                (subst (λ e. IsTrue (is_some (sak_in (facts_of r) i.station e))) (eqb-true i.epoch epoch both.1)
                (in-sak (facts_of r) told.0 i told.1 told.2))
          ]

      no_refusal : (o : Option Secret) → IsTrue (is_some o) → no_epoch o ≡ None
      no_refusal None is = absurd (cc is)
      no_refusal (Some sak) is = refl

      by-kind : IsAlone x.facts
          → no_epoch (sak_in (facts_of r ++ pre) s epoch) ≡ None
      by-kind (inl none) =
          absurd (cc (all-middle (λ fact. claim_of fact ≡ None) pre fact post
          (subst (λ fs. All (λ fact. claim_of fact ≡ None) fs) whole none)))
      by-kind (inr one) =
          let empty = only-one pre fact one.0 post (sym whole ∙ one.1) in
          let at : In i (installs r) = elim (from-gather x.facts (installs r) i in-all) [
            | inl older ↦ older
            | inr told ↦ none-here told.0 (subst (λ fs. In told.0 fs) one.1 told.1) told.2
          ] in
          subst (λ fs. no_epoch (sak_in fs s epoch) ≡ None)
          (sym (append-nil (facts_of r)) ∙ ap (λ p. facts_of r ++ p) (sym empty))
          (no_refusal (sak_in (facts_of r) s epoch) (before at))
        where
          none-here : (g : Fact) → In g (one.0 ∷ []) → install_of g ≡ Some i → In i (installs r)
          none-here g (inl same) is = absurd (cc (sym (ap install_of same ∙ one.2) ∙ is))
          none-here g (inr nothing) is = absurd nothing

  -- no fact of a step is refused
  unrefused : (x : Happening) (r : Run) (pre : List Fact) (fact : Fact) (post : List Fact)
      → IsStepped settings users (x ∷ r) → IsFresh (x ∷ r) → IsUnforged settings (x ∷ r)
      → x.facts ≡ pre ++ fact ∷ post → refusal (facts_of r ++ pre) fact ≡ None
  unrefused x r pre (shows.Installed s id an epoch sak) post stepped fresh honest whole =
      ap (option_map (λ _. Doubled))
      (not-doubled (x ∷ r) (counted-differ (installs (x ∷ r)) (laws.counted (x ∷ r) stepped))
      (facts_of r ++ pre) post s id an epoch sak
      (ap (λ fs. facts_of r ++ fs) whole
      ∙ sym (append_assoc (facts_of r) pre (shows.Installed s id an epoch sak ∷ post))))
  unrefused x r pre (shows.Claimed s an epoch pn) post stepped fresh honest whole =
      claim-known x r pre post s an epoch pn stepped fresh honest whole
  unrefused x r pre _ post stepped fresh honest whole = refl

  walk : (ns more : List Name) (base fs : List Fact) → All (IsFact ns) fs
      → ((pre : List Fact) (fact : Fact) (post : List Fact) → fs ≡ pre ++ fact ∷ post
      → refusal (base ++ pre) fact ≡ None)
      → AreTakenAlone ns base (map (line (ns ++ more)) fs) ns (base ++ fs)
  walk ns more base [] all free = (refl, sym (append-nil base))
  walk ns more base (fact ∷ fs) all free =
      let fit = All-head (IsFact ns) fact fs all in (
        ns,
        fact,
        ((fit, sym (laws.grow ns more fact fit)), inl refl),
        subst (λ b. refusal b fact ≡ None) (append-nil base) (free [] fact fs refl),
        subst (λ g. AreTakenAlone ns (base ++ fact ∷ []) (map (line (ns ++ more)) fs) ns g)
            (append_assoc base (fact ∷ []) fs)
            (walk ns more (base ++ fact ∷ []) fs (All-tail (IsFact ns) fact fs all)
            (λ pre g post e. subst (λ b. refusal b g ≡ None) (sym (append_assoc base (fact ∷ []) pre))
            (free (fact ∷ pre) g post (ap (λ gs. fact ∷ gs) e)))),
      )

  -- ---- an event

  few-names : (r : Run) → length (stations r) ≤ 16 → length (names r) ≤ 256
  few-names r few = let l = length-map (stations r) (λ (p : Profile). p.name) in
      omega (arith, l, few)

  event-fits : (x : Happening) (r : Run) → IsStepped settings users (x ∷ r)
      → All (IsFact (names (x ∷ r))) x.facts
  event-fits x r stepped = λ k d less.
      let typed = all-right IsTypedFact (facts_of r) x.facts (laws.typed (x ∷ r) stepped) k d less in
      let placed = laws.placed x r stepped.0 k d less in
      let l = length-map (stations (x ∷ r)) (λ (p : Profile). p.name) in
      laws.lines (names (x ∷ r)) _ typed (omega (arith, l, placed))
      (few-names (x ∷ r) stepped.0.within.stations)

  -- an event passes, from the names before it to those after
  abbrev Goes : Happening → Run → Type 0
  Goes x r = (more : List Name)
      → AreTakenAlone (names r) (facts_of r) (map (line (names (x ∷ r) ++ more)) x.facts) (names (x ∷ r))
      (facts_of r ++ x.facts)

  quiet-goes : (x : Happening) (r : Run) → IsStepped settings users (x ∷ r) → IsFresh (x ∷ r)
      → IsUnforged settings (x ∷ r) → started x.event ≡ [] → Goes x r
  unfolding stations
  quiet-goes x r stepped fresh honest none more =
      let same : names (x ∷ r) ≡ names r =
      ap (λ ps. map (λ (p : Profile). p.name) (stations r ++ ps)) none
      ∙ ap (λ ps. map (λ (p : Profile). p.name) ps) (append-nil (stations r)) in
      let fits = subst (λ ns. All (IsFact ns) x.facts) same (event-fits x r stepped) in
      subst (λ ns. AreTakenAlone (names r) (facts_of r) (map (line (ns ++ more)) x.facts) ns (facts_of r ++ x.facts))
      (sym same)
      (walk (names r) more (facts_of r) x.facts fits
      (λ pre fact post e. unrefused x r pre fact post stepped fresh honest e))

  start-goes : (name : Name) (sci : Sci) (priority : ℕ) (f : List Fact) (r : Run)
      → IsStepped settings users (happened (events.Start name sci priority) f ∷ r)
      → Goes (happened (events.Start name sci priority) f) r
  unfolding stations
  start-goes name sci priority f r stepped more =
      let x = happened (events.Start name sci priority) f in
      let p : Profile = record { name = name; sci = sci; priority = priority } in
      let is = laws.starts name sci priority f r stepped.0 in
      let fact = shows.Life (length (stations r)) is.0 in
      let after = names (x ∷ r) in
      let l = length-map (stations r) (λ (p : Profile). p.name) in
      let grown : after ≡ names r ++ name ∷ [] =
      map-append (λ (p : Profile). p.name) (stations r) (p ∷ []) in
      let fit : IsFact after fact = All-head (IsFact after) fact []
      (subst (λ fs. All (IsFact after) fs) is.1 (event-fits x r stepped)) in
      let room = stepped.0.within.stations in
      let count = length-append (stations r) (p ∷ []) in
      subst (λ fs. AreTakenAlone (names r) (facts_of r) (map (line (after ++ more)) fs) after (facts_of r ++ fs))
      (sym is.1) (
        after,
        fact,
        (
          (fit, sym (laws.grow after more fact fit)),
          inr (record {
            name = name;
            mi = is.0;
            grown = grown;
            well_formed = stepped.0.in_order.0.0;
            new = new-names (stations r) stepped.0.in_order.1.0;
            room = omega (arith, l, room, count);
            life = ap (λ n. shows.Life n is.0) (sym l);
          }),
        ),
        refl,
        (refl, refl),
      )
    where
      new-names : (ps : List Profile) → All (λ p. (p.name ≢ name) × (p.sci ≢ sci)) ps
          → All (λ other. other ≢ name) (map (λ (p : Profile). p.name) ps)
      new-names [] all = All-nil (λ other. other ≢ name)
      new-names (q ∷ ps) all =
          All-cons (λ other. other ≢ name) q.name (map (λ (p : Profile). p.name) ps)
          (All-head (λ (p : Profile). (p.name ≢ name) × (p.sci ≢ sci)) q ps all).0
          (new-names ps (All-tail (λ (p : Profile). (p.name ≢ name) × (p.sci ≢ sci)) q ps all))

  goes : (e : Event) (f : List Fact) (r : Run) → IsStepped settings users (happened e f ∷ r)
      → IsFresh (happened e f ∷ r) → IsUnforged settings (happened e f ∷ r) → Goes (happened e f) r
  goes (events.Start name sci priority) f r stepped fresh honest =
      start-goes name sci priority f r stepped
  goes (events.Tick s next) f r stepped fresh honest =
      quiet-goes (happened (events.Tick s next) f) r stepped fresh honest refl
  goes (events.Deliver frame s) f r stepped fresh honest =
      quiet-goes (happened (events.Deliver frame s) f) r stepped fresh honest refl
  goes (events.Restart s) f r stepped fresh honest =
      quiet-goes (happened (events.Restart s) f) r stepped fresh honest refl
  goes (events.Claim s user pn) f r stepped fresh honest =
      quiet-goes (happened (events.Claim s user pn) f) r stepped fresh honest refl
  goes events.Emit f r stepped fresh honest =
      quiet-goes (happened events.Emit f) r stepped fresh honest refl
  goes (events.Inject s octets) f r stepped fresh honest =
      quiet-goes (happened (events.Inject s octets) f) r stepped fresh honest refl

  -- the names of a station more stand behind those before
  names-then : (x : Happening) (r : Run)
      → names (x ∷ r) ≡ names r ++ map (λ (p : Profile). p.name) (started x.event)
  unfolding stations
  names-then x r = map-append (λ (p : Profile). p.name) (stations r) (started x.event)

  pass : (r : Run) → IsStepped settings users r → IsFresh r → IsUnforged settings r
      → (more : List Name)
      → AreTakenAlone [] [] (map (line (names r ++ more)) (facts_of r)) (names r) (facts_of r)
  unfolding stations
  pass [] stepped fresh honest more = (refl, refl)
  pass (x ∷ r) stepped fresh honest more =
      let added = map (λ (p : Profile). p.name) (started x.event) in
      let all : names (x ∷ r) ++ more ≡ names r ++ (added ++ more) =
      ap (λ ns. ns ++ more) (names-then x r) ∙ append_assoc (names r) added more in
      let before = subst (λ ns. AreTakenAlone [] [] (map (line ns) (facts_of r)) (names r) (facts_of r)) (sym all)
      (pass r stepped.1 (laws.fresh x r fresh) honest.1 (added ++ more)) in
      subst (λ ls. AreTakenAlone [] [] ls (names (x ∷ r)) (facts_of r ++ x.facts))
      (sym (map-append (line (names (x ∷ r) ++ more)) (facts_of r) x.facts))
      (passes-more [] [] (map (line (names (x ∷ r) ++ more)) (facts_of r)) (names r) (facts_of r)
      (map (line (names (x ∷ r) ++ more)) x.facts) (names (x ∷ r)) (facts_of r ++ x.facts) before
      (goes x.event x.facts r stepped fresh honest more))

  pub run-passes : (r : Run) → IsStepped settings users r → IsFresh r → IsUnforged settings r
      → AreTakenAlone [] [] (map (line (names r)) (facts_of r)) (names r) (facts_of r)
  run-passes r stepped fresh honest =
      subst (λ ns. AreTakenAlone [] [] (map (line ns) (facts_of r)) (names r) (facts_of r)) (append-nil (names r))
      (pass r stepped fresh honest [])
