-- What the facts of an event add to the ledgers.
use Rattle.std.proofs.Common.{◌≡◌, refl, sym, ap, ◌∙◌, subst, ℕ, false, List, [], ◌∷◌, ◌++◌, map}
use Rattle.std.proofs.Common.{Option, Some, None, Result, Ok, Err, filter}
use Rattle.std.specs.Prelude.{option_map, option_to_list}
use Rattle.std.proofs.lemmas.List.{map-append}
use Rattle.lan_base.specs.declared.address.Mi.{Mi}
use Rattle.sak_exchange.specs.declared.change.Change.{Change}
use Rattle.sak_exchange.specs.declared.change.Change.TheVariants as changes
use Rattle.sak_exchange.specs.declared.change.Why.{Why}
use Rattle.sak_exchange.specs.declared.held_key.HeldKey.{HeldKey}
use Rattle.sak_exchange.specs.declared.offer.Offer.{Offer}
use Rattle.sak_exchange.specs.declared.held_key.Key.{Key}
use Rattle.sak_exchange.specs.Histories.{Keying, installed}
use Rattle.sak_exchange.specs.Held.{ends, received, held, shown as seen_as}
use Rattle.sak_exchange.specs.Beginning.{Beginning, retired}
use Rattle.sak_exchange.specs.Outcomes.{beginning, installing, judging}
use Rattle.mka_station.specs.declared.reaction.Reaction.{Reaction}
use Rattle.mka_station.specs.Tick.{ended, install_changes}
use Rattle.mka_station.specs.Hearing.{key_taken, take_changes}
use Rattle.lan_core.specs.declared.fact.Fact.{Fact}
use Rattle.lan_core.specs.declared.fact.Fact.TheVariants as facts
use Rattle.lan_core.specs.Ledgers.{Birth, born, Install, install_of, Frame, framed, Claim, claim_of}
use Rattle.lan_core.specs.Ledgers.{gather}
use Rattle.lan_core.specs.Expected.{change_fact, reaction_facts}
use Rattle.lan_core.proofs.Public.{gather-append, sending, gather-reaction}

-- what facts add to the births, the installs, the air and the claims, newest first
pub record IsGist (shown : List Fact) (bs : List Birth) (is : List Install) (fs : List Frame)
    (cs : List Claim) : Type 0 where
  pub births : (xs : List Birth) → gather born shown xs ≡ bs ++ xs
  pub installs : (xs : List Install) → gather install_of shown xs ≡ is ++ xs
  pub air : (xs : List Frame) → gather framed shown xs ≡ fs ++ xs
  pub claims : (xs : List Claim) → gather claim_of shown xs ≡ cs ++ xs

-- nothing
abbrev pub IsQuiet : List Fact → Type 0
IsQuiet shown = IsGist shown [] [] [] []

pub quiet-none : IsQuiet []
quiet-none =
    record { births = λ xs. refl; installs = λ xs. refl; air = λ xs. refl; claims = λ xs. refl }

-- after facts that add nothing
pub quiet-before : {f g : List Fact} {bs : List Birth} {is : List Install} {fs : List Frame}
    {cs : List Claim}
    → IsQuiet f → IsGist g bs is fs cs → IsGist (f ++ g) bs is fs cs
quiet-before {f} {g} {bs} {is} {fs} {cs} a b = record {
  births = λ xs. gather-append born f g xs ∙ ap (gather born g) (a.births xs) ∙ b.births xs;
  installs = λ xs. gather-append install_of f g xs ∙ ap (gather install_of g) (a.installs xs)
      ∙ b.installs xs;
  air = λ xs. gather-append framed f g xs ∙ ap (gather framed g) (a.air xs) ∙ b.air xs;
  claims = λ xs. gather-append claim_of f g xs ∙ ap (gather claim_of g) (a.claims xs) ∙ b.claims xs;
}

-- before facts that only put frames on the air
pub frames-after : {f g : List Fact} {bs : List Birth} {is : List Install} {fs : List Frame}
    {cs : List Claim}
    → IsGist f bs is [] cs → IsGist g [] [] fs [] → IsGist (f ++ g) bs is fs cs
frames-after {f} {g} {bs} {is} {fs} {cs} a b = record {
  births = λ xs. gather-append born f g xs ∙ ap (gather born g) (a.births xs) ∙ b.births (bs ++ xs);
  installs = λ xs. gather-append install_of f g xs ∙ ap (gather install_of g) (a.installs xs)
      ∙ b.installs (is ++ xs);
  air = λ xs. gather-append framed f g xs ∙ ap (gather framed g) (a.air xs) ∙ b.air xs;
  claims = λ xs. gather-append claim_of f g xs ∙ ap (gather claim_of g) (a.claims xs)
      ∙ b.claims (cs ++ xs);
}

-- ---- changes of keys

-- the install of a key, if there is one
abbrev pub installed_at : ℕ → Option Key → List Install
installed_at s None = []
installed_at s (Some k) =
    record { station = s; id = k.id; an = k.an; epoch = k.epoch; sak = k.sak } ∷ []

abbrev pub ChangesAre : ℕ → List Change → Option Key → Type 0
ChangesAre s cs k = IsGist (map (change_fact s) cs) [] (installed_at s k) [] []

pub drops-quiet : (s : ℕ) (f : Key → HeldKey) (ks : List Key)
    → ChangesAre s (map (λ k. changes.Dropped (f k)) ks) None
drops-quiet s f [] = quiet-none
drops-quiet s f (k ∷ ks) =
    let r = drops-quiet s f ks in
    record { births = r.births; installs = r.installs; air = r.air; claims = r.claims }

retire-quiet : (s : ℕ) (f : Key → HeldKey) (o : Option Key)
    → ChangesAre s (option_to_list (option_map (λ k. changes.Retired (f k)) o)) None
retire-quiet s f None = quiet-none
retire-quiet s f (Some k) =
    record { births = λ xs. refl; installs = λ xs. refl; air = λ xs. refl; claims = λ xs. refl }

-- changes one after the other, of which the first install nothing
pub changes-then : (s : ℕ) (cs ds : List Change) (k : Option Key) → ChangesAre s cs None
    → ChangesAre s ds k → ChangesAre s (cs ++ ds) k
changes-then s cs ds k a b =
    subst (λ w. IsGist w [] (installed_at s k) [] []) (sym (map-append (change_fact s) cs ds))
    (quiet-before a b)

-- changes one after the other, of which the last install nothing
pub then-changes : (s : ℕ) (cs ds : List Change) (k : Option Key) → ChangesAre s cs k
    → ChangesAre s ds None → ChangesAre s (cs ++ ds) k
then-changes s cs ds k a b =
    subst (λ w. IsGist w [] (installed_at s k) [] []) (sym (map-append (change_fact s) cs ds))
    (frames-after a b)

pub ended-quiet : (s : ℕ) (h : List Keying) (server : Option Mi)
    → ChangesAre s (ended h server) None
ended-quiet s h None = drops-quiet s (held h) (received h)
ended-quiet s h (Some server) = retire-quiet s (held h) (retired h)

pub begin-quiet : (s : ℕ) (h : List Keying) (b : Option Beginning)
    → ChangesAre s (beginning h b).changes None
begin-quiet s h None = quiet-none
begin-quiet s h (Some b) =
    record { births = λ xs. refl; installs = λ xs. refl; air = λ xs. refl; claims = λ xs. refl }

install-one : (s : ℕ) (k : Key) → ChangesAre s (changes.Installed (seen_as false k) ∷ []) (Some k)
install-one s k =
    record { births = λ xs. refl; installs = λ xs. refl; air = λ xs. refl; claims = λ xs. refl }

pub installing-is : (s : ℕ) (h : List Keying) (roster : Option (List Mi)) (k : Key)
    → ChangesAre s (installing h roster k).changes (Some k)
installing-is s h roster k =
    changes-then s
    (map (λ j. changes.Dropped (held h j)) (filter (ends (installed roster k) h) (received h)))
    (changes.Installed (seen_as false k) ∷ []) (Some k)
    (drops-quiet s (held h) (filter (ends (installed roster k) h) (received h))) (install-one s k)

pub install-is : (s : ℕ) (h : List Keying) (roster : Option (List Mi)) (k : Option Key)
    → ChangesAre s (install_changes h roster k) k
install-is s h roster None = quiet-none
install-is s h roster (Some k) = installing-is s h roster k

judging-is : (s : ℕ) (h : List Keying) (o : Offer) (answer : Result Key Why)
    → ChangesAre s (judging h o answer).changes (key_taken (Some answer))
judging-is s h o (Ok k) = installing-is s h None k
judging-is s h o (Err why) =
    record { births = λ xs. refl; installs = λ xs. refl; air = λ xs. refl; claims = λ xs. refl }

pub take-is : (s : ℕ) (h : List Keying) (offer : Option Offer) (f : Offer → Result Key Why)
    → ChangesAre s (take_changes h offer (option_map f offer)) (key_taken (option_map f offer))
take-is s h None f = quiet-none
take-is s h (Some o) f = judging-is s h o (f o)

-- ---- reactions

-- the frame that a station sent, if it sent one
abbrev pub sent_frame : ℕ → ℕ → Option (List ℕ) → List Frame
sent_frame number s None = []
sent_frame number s (Some octets) =
    record { number = number; station = s; sec = false; octets = octets } ∷ []

sent-is : (s number : ℕ) (o : Option (List ℕ))
    → IsGist (option_to_list (option_map (λ octets. facts.Framed number s false octets) o)) [] []
    (sent_frame number s o) []
sent-is s number None = quiet-none
sent-is s number (Some octets) =
    record { births = λ xs. refl; installs = λ xs. refl; air = λ xs. refl; claims = λ xs. refl }

pub reaction-is : (s heard number : ℕ) (reaction : Reaction) (k : Option Key)
    → ChangesAre s reaction.changes k
    → IsGist (reaction_facts s heard number reaction) [] (installed_at s k)
    (sent_frame number s reaction.sent) []
reaction-is s heard number reaction k changed =
    let last = sending s number reaction in
    let sent = sent-is s number reaction.sent in
    record {
      births = λ xs. gather-reaction born s heard number reaction xs (λ v. refl) (λ m. refl)
          ∙ ap (gather born last) (changed.births xs) ∙ sent.births xs;
      installs = λ xs. gather-reaction install_of s heard number reaction xs (λ v. refl) (λ m. refl)
          ∙ ap (gather install_of last) (changed.installs xs)
          ∙ sent.installs (installed_at s k ++ xs);
      air = λ xs. gather-reaction framed s heard number reaction xs (λ v. refl) (λ m. refl)
          ∙ ap (gather framed last) (changed.air xs) ∙ sent.air xs;
      claims = λ xs. gather-reaction claim_of s heard number reaction xs (λ v. refl) (λ m. refl)
          ∙ ap (gather claim_of last) (changed.claims xs) ∙ sent.claims xs;
    }
