-- Accepted posts, joined.
use mathlib.Core.Path.{sym, subst}
use mathlib.Core.List.{List, [], ◌∷◌, ◌++◌, append-nil, append_assoc}
use Prim.Native.Nat.{ℕ}
use Rattle.rules.specs.Engine.{Call, Post}
use Rattle.scenario_posting.specs.Promises.{AllPosted, none, more}

pub posted_join : {xs ys zs : List ℕ} (cs : List Call) {ds : List Call} → AllPosted xs cs ys → AllPosted ys ds zs → AllPosted xs (cs ++ ds) zs
posted_join {xs} {ys} cs a none = subst (λ l. AllPosted xs l ys) (sym (append-nil cs)) a
posted_join {xs} {zs = zs} cs a (more {cs = ds} {s = s} {t = t} {kind = kind} {value = value} r b p q) =
    subst (λ l. AllPosted xs l zs) (append_assoc cs ds (Post s t kind value ∷ [])) (more r (posted_join cs a b) p q)
