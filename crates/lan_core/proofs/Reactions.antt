-- What the facts of a station's reaction add to a ledger that reads neither what became of a frame
-- nor servers: what the changes of its keys add, and then the frame that it sent.
use Rattle.std.proofs.Common.{◌≡◌, ◌∙◌, refl, ap, ℕ, false, List, [], ◌∷◌, ◌++◌, map}
use Rattle.std.proofs.Common.{Option, Some, None}
use Rattle.std.specs.Prelude.{option_map, option_to_list}
use Rattle.lan_base.specs.declared.address.Mi.{Mi}
use Rattle.sak_exchange.specs.declared.change.Change.{Change}
use Rattle.sak_exchange.specs.declared.change.Change.TheVariants as changes
use Rattle.mka_station.specs.declared.reaction.Reaction.{Reaction}
use Rattle.mka_station.specs.declared.verdict.Verdict.{Verdict}
use Rattle.lan_core.specs.declared.fact.Fact.{Fact}
use Rattle.lan_core.specs.declared.fact.Fact.TheVariants as facts
use Rattle.lan_core.specs.Ledgers.{Frame, framed, gather, with_one}
use Rattle.lan_core.specs.Expected.{change_fact, reaction_facts}

pub gather-append : {A : Type 0} (read : Fact → Option A) (before later : List Fact) (xs : List A)
    → gather read (before ++ later) xs ≡ gather read later (gather read before xs)
gather-append read [] later xs = refl
gather-append read (fact ∷ before) later xs =
    gather-append read before later (with_one (read fact) xs)

-- a fact that is not read adds nothing, if it is there
pub gather-unread : {A B : Type 0} (read : Fact → Option A) (fact : B → Fact) (o : Option B)
    (xs : List A) → ((b : B) → read (fact b) ≡ None)
    → gather read (option_to_list (option_map fact o)) xs ≡ xs
gather-unread read fact None xs unread = refl
gather-unread read fact (Some b) xs unread = ap (λ o. with_one o xs) (unread b)

-- the frame that a station sent, as a fact, if it sent one
abbrev pub sending : ℕ → ℕ → Reaction → List Fact
sending s sent reaction =
    option_to_list (option_map (λ octets. facts.Framed sent s false octets) reaction.sent)

pub gather-reaction : {A : Type 0} (read : Fact → Option A) (s heard sent : ℕ) (re : Reaction)
    (xs : List A) → ((v : Verdict) → read (facts.HeardMka heard s v) ≡ None)
    → ((server : Option Mi) → read (facts.Server s server) ≡ None)
    → gather read (reaction_facts s heard sent re) xs
    ≡ gather read (sending s sent re) (gather read (map (change_fact s) re.changes) xs)
gather-reaction read s heard sent re xs verdict server =
    let first = option_to_list (option_map (λ v. facts.HeardMka heard s v) re.heard) in
    let second = option_to_list (option_map (λ m. facts.Server s m) re.server) in
    let third = map (change_fact s) re.changes in
    let last = sending s sent re in
    gather-append read first (second ++ (third ++ last)) xs
    ∙ ap (gather read (second ++ (third ++ last)))
    (gather-unread read (λ v. facts.HeardMka heard s v) re.heard xs verdict)
    ∙ gather-append read second (third ++ last) xs
    ∙ ap (gather read (third ++ last))
    (gather-unread read (λ m. facts.Server s m) re.server xs server)
    ∙ gather-append read third last xs

-- ---- the air

air-unchanged : (s : ℕ) (cs : List Change) (fs : List Frame)
    → gather framed (map (change_fact s) cs) fs ≡ fs
air-unchanged s [] fs = refl
air-unchanged s (changes.Dropped k ∷ cs) fs = air-unchanged s cs fs
air-unchanged s (changes.Retired k ∷ cs) fs = air-unchanged s cs fs
air-unchanged s (changes.Began k cause ∷ cs) fs = air-unchanged s cs fs
air-unchanged s (changes.Installed k ∷ cs) fs = air-unchanged s cs fs
air-unchanged s (changes.Untaken id why ∷ cs) fs = air-unchanged s cs fs

-- of the facts of a reaction only the frame that it sends is put on the air
pub reaction-air : (s heard sent : ℕ) (re : Reaction) (fs : List Frame)
    → gather framed (reaction_facts s heard sent re) fs ≡ gather framed (sending s sent re) fs
reaction-air s heard sent re fs =
    gather-reaction framed s heard sent re fs (λ v. refl) (λ server. refl)
    ∙ ap (gather framed (sending s sent re)) (air-unchanged s re.changes fs)

-- ---- what is read of the first fact alone, or counted

-- facts that a reading passes over, if they are there
pub passed-over : {A B : Type 0} (told : List Fact → A) (fact : B → Fact) (o : Option B)
    (later : List Fact) → ((b : B) → told (fact b ∷ later) ≡ told later)
    → told (option_to_list (option_map fact o) ++ later) ≡ told later
passed-over told fact None later over = refl
passed-over told fact (Some b) later over = over b
