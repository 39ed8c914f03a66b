-- Entries, the equalities that they cite, and what is wrong with them.
use Rattle.std.specs.Prelude.{◌≡◌, ℕ, ◌<◌, ◌==◌, ◌||◌, Bool, true, false, Option, None, Some, List, [], ◌∷◌, length, slice_index, slice_index_or, MatchOption}
use Rattle.pe_graph.specs.Literals.{truth_of}
use Rattle.pe_graph.specs.declared.graph.Node.{Node}
use Rattle.pe_graph.specs.Nodes.{IsIn}
use Rattle.pe_graph.specs.declared.job.Job.{Job}
use Rattle.pe_graph.specs.declared.job.Goal.{Goal}
use Rattle.pe_cnf.specs.declared.equality.Equality.{Equality}
use Rattle.pe_cnf.specs.ClauseSet.{ClauseSet}
use Rattle.pe_cnf.specs.Cone.{IsConeOf}
use Rattle.pe_refute.specs.Evidence.{IsGood}
use Rattle.pe_refute.specs.Faults.{IsWrongAt}
use Rattle.pe_refute.specs.declared.evidence.Evidence.{Evidence}
use Rattle.std.specs.Arc.{arc_value}
use Rattle.pe_refute.specs.declared.entry.Entry.{Entry}
use Rattle.pe_refute.specs.declared.entry.CheckedEntry.{CheckedEntry}
use Rattle.pe_refute.specs.declared.entry.EntryFault.{EntryFault}
use Rattle.pe_refute.specs.declared.entry.EntryFault.TheVariants.{Memory, Bad, BadCite}

-- the equality that is seen at a place, if one is
abbrev pub seen_at : List (Option Equality) → ℕ → Option Equality
seen_at seen place = slice_index_or seen place None

-- there is an equality, of this context or of the constant true
abbrev pub fits : ℕ → Option Equality → Bool
fits ctx None = false
fits ctx (Some e) = (e.ctx == ctx) || (e.ctx == truth_of true)

-- an entry of this context may cite the place
abbrev pub is_lawful : List (Option Equality) → ℕ → ℕ → Bool
is_lawful seen ctx place = fits ctx (seen_at seen place)

abbrev pub AreLawful : List (Option Equality) → ℕ → List ℕ → Type 0
AreLawful seen ctx cites = (i : ℕ) → i < length cites → is_lawful seen ctx (slice_index cites i) ≡ true

-- the place is the first citation that is not lawful
abbrev pub IsFirstUnlawful : List (Option Equality) → ℕ → List ℕ → ℕ → Type 0
IsFirstUnlawful seen ctx cites place =
    (i : ℕ) × (i < length cites) × (place ≡ slice_index cites i) × (is_lawful seen ctx place ≡ false) ×
    ((j : ℕ) → j < i → is_lawful seen ctx (slice_index cites j) ≡ true)

abbrev pub with_seen : Option Equality → List Equality → List Equality
with_seen None cited = cited
with_seen (Some e) cited = e ∷ cited

-- the equalities at the cited places, in citing order
abbrev pub cited_of : List (Option Equality) → List ℕ → List Equality
cited_of seen [] = []
cited_of seen (place ∷ cites) = with_seen (seen_at seen place) (cited_of seen cites)

-- the equality as a question
abbrev pub goal_of : ℕ → Equality → Goal
goal_of width e = record { ctx = e.ctx; a = e.a; b = e.b; leaves = width }

-- the literals of each equality seen are of the graph
abbrev pub AreSeenIn : List Node → List (Option Equality) → Type 0
AreSeenIn nodes seen = (place : ℕ) (e : Equality) → seen_at seen place ≡ Some e → (IsIn nodes e.a) × (IsIn nodes e.b)

-- over the clauses of the equality's cone, with these equalities cited, the evidence is good, or wrong at this step
abbrev pub IsJudged : List Node → ℕ → Equality → List Equality → Evidence → Option ℕ → Type 0
IsJudged nodes width eq cited evidence fault =
    (set : ClauseSet) × IsConeOf nodes (goal_of width eq) width cited set × MatchOption fault (IsGood set evidence) (IsWrongAt set evidence)

-- all citations are lawful, and with the equalities cited the evidence is good, or wrong at this step
abbrev pub IsAnswer : Job → List (Option Equality) → Equality → List ℕ → Evidence → Option ℕ → Type 0
IsAnswer job seen eq cites evidence fault =
    AreLawful seen eq.ctx cites × IsJudged job.graph (length job.leaves) eq (cited_of seen cites) evidence fault

-- the entry is kept with the equalities that it cites, and all of it is right
pub record IsAccepted (job : Job) (seen : List (Option Equality)) (entry : Entry) (kept : CheckedEntry) : Type 0 where
  pub job_is : arc_value kept.job ≡ job
  pub entry_is : kept.entry ≡ entry
  pub cited_are : kept.cited ≡ cited_of seen entry.cites
  pub right : IsAnswer job seen entry.eq entry.cites entry.evidence None

-- the entry comes back, or what is first wrong with it is told
abbrev pub IsRefused : Job → List (Option Equality) → Entry → EntryFault → Type 0
IsRefused job seen entry (Memory back) = back ≡ entry
IsRefused job seen entry (Bad step) = IsAnswer job seen entry.eq entry.cites entry.evidence (Some step)
IsRefused job seen entry (BadCite place) = IsFirstUnlawful seen entry.eq.ctx entry.cites place
