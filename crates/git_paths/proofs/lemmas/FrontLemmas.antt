-- Texts that grow at their end.
use Rattle.std.proofs.Common.{◌≡◌, ℕ, List, ◌++◌, ◌≤◌, take, drop, length, sym, ap, ◌∙◌, arith}
use Rattle.std.specs.Io.{StartsWith}
use Rattle.std.proofs.Math.Seq.{take-append_seam}
use Rattle.std.proofs.lemmas.List.{length-take, take-append-drop, take-append-le}

-- what a text begins with, and the rest
pub cut : (front text : List ℕ) → StartsWith text front → text ≡ front ++ drop (length front) text
cut front text begins = sym (take-append-drop (length front) text) ∙ ap (λ part. part ++ drop (length front) text) begins

-- a text begins with what it was joined from
pub front_of_joined : (front rest text : List ℕ) → text ≡ front ++ rest → StartsWith text front
front_of_joined front rest text joined = ap (λ all. take (length front) all) joined ∙ take-append_seam front rest

-- a text begins with what its front begins with
pub front_of_front : (first second third : List ℕ) → StartsWith second first → StartsWith third second → StartsWith third first
front_of_front first second third before behind =
    let short : length first ≤ length second = omega (arith, sym (length-take (length first) second) ∙ ap length before) in
    ap (λ text. take (length first) text) (cut second third behind) ∙ take-append-le (length first) second (drop (length second) third) short ∙ before
