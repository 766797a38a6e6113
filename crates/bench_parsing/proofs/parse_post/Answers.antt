-- The line is the word post with four numbers after it, or it is no command's where the first of them is missing.
use mathlib.Core.Path.{refl}
use mathlib.Core.List.{[], ◌∷◌}
use Rattle.text_reading.proofs.Chains.{end, more, chain_fits, no_next, no_end, with_end}
use Rattle.bench_parsing.proofs.Accepting.{refuses_post, takes_post}
use Rattle.bench_parsing.proofs.parse_post.Goals as goal

-- ---- a number is missing

pub returns-in_default : goal.returns-in_default
returns-in_default c =
    (refuses_post _ c.requires (λ s t k v f q. no_next _ end c.number_after.ensures c.in_default.is [] s (t ∷ k ∷ v ∷ []) refl tt f.0 q))

pub returns-in_default-number_after : goal.returns-in_default-number_after
returns-in_default-number_after c =
    let chain = more c.number_after.ensures c.in-Some.is end in
    (refuses_post _ c.requires
    (λ s t k v f q. no_next _ chain c.number_after-2.ensures c.in_default-number_after.is (s ∷ []) t (k ∷ v ∷ []) refl ((f.0, tt)) f.1 q))

pub returns-in_default-number_after-2 : goal.returns-in_default-number_after-2
returns-in_default-number_after-2 c =
    let chain = more c.number_after.ensures c.in-Some.is (more c.number_after-2.ensures c.in-Some-number_after.is end) in
    (refuses_post _ c.requires
    (λ s t k v f q. no_next _ chain c.number_after-3.ensures c.in_default-number_after-2.is (s ∷ t ∷ []) k (v ∷ []) refl ((f.0, (f.1, tt))) f.2 q))

pub returns-in_default-number_after-3 : goal.returns-in_default-number_after-3
returns-in_default-number_after-3 c =
    let chain =
    more c.number_after.ensures c.in-Some.is
    (more c.number_after-2.ensures c.in-Some-number_after.is (more c.number_after-3.ensures c.in-Some-number_after-2.is end)) in
    (refuses_post _ c.requires
    (λ s t k v f q. no_next _ chain c.number_after-4.ensures c.in_default-number_after-3.is (s ∷ t ∷ k ∷ []) v [] refl ((f.0, (f.1, (f.2, tt)))) f.3 q))

-- ---- all four are there: the line ends after them, or it does not

pub returns-then-value-line : goal.returns-then-value-line
returns-then-value-line c =
    let chain =
    more c.number_after.ensures c.in-Some.is
    (more c.number_after-2.ensures c.in-Some-number_after.is
    (more c.number_after-3.ensures c.in-Some-number_after-2.is (more c.number_after-4.ensures c.in-Some-number_after-3.is end))) in
    let fits = chain_fits _ chain in
    takes_post _ c.requires _ _ _ _ ((fits.0, fits.1.0, fits.1.1.0, fits.1.1.1.0)) (with_end _ chain c.if-value-line.true)

pub returns : goal.returns
returns c =
    let chain =
    more c.number_after.ensures c.in-Some.is
    (more c.number_after-2.ensures c.in-Some-number_after.is
    (more c.number_after-3.ensures c.in-Some-number_after-2.is (more c.number_after-4.ensures c.in-Some-number_after-3.is end))) in
    let within = (c.number_after-4.ensures.found _ c.in-Some-number_after-3.is).2 in
    refuses_post _ c.requires
    (λ s t k v f q. no_end _ chain within c.if-value-line.false (s ∷ t ∷ k ∷ v ∷ []) refl ((f.0, (f.1, (f.2, (f.3, tt))))) q)
