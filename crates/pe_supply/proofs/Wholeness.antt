-- What the commands of an intent speak of, they make or use.
use Rattle.std.proofs.Common.{◌≡◌, inl, inr, ℕ, zero, suc, ◌<◌, Bool, true, false, ◌||◌, List, [], ◌∷◌, ◌++◌, length, map, get_or, Option, Some, None, refl, ap, sym, ◌∙◌, arith}
use Rattle.std.specs.Prelude.{Contains}
use Rattle.std.specs.Str.{bytes_eq}
use Rattle.std.proofs.lemmas.Bool.{false≢true}
use Rattle.std.proofs.lemmas.List.Elements.{All-nil, All-cons, All-append, All-same, All-map, Contains-append_left, Contains-append_right}
use Rattle.pe_base.specs.Names.{has_name}
use Rattle.pe_upf_read.specs.declared.intent.Command.{Command}
use Rattle.pe_upf_read.specs.declared.intent.Command.TheVariants.{UpfVersion, SetDesignTop, CreatePowerDomain, CreateSupplyPort, CreateSupplyNet, ConnectSupplyNet, CreateSupplySet, SetDomainSupplyNet, CreatePowerSwitch, AddPortState, CreatePst, AddPstState, SetIsolation, SetRetention, Ignored}
use Rattle.pe_supply.specs.declared.plan.Plan.{Plan}
use Rattle.pe_supply.specs.declared.plan.SwitchText.{SwitchText}
use Rattle.pe_supply.specs.declared.plan.Use.{Use}
use Rattle.pe_supply.specs.declared.plan.Use.TheVariants.{Supply, Port}
use Rattle.pe_supply.specs.Plans.{no_plan, given, tie_to, output_name, plan_by, plan_of}
use Rattle.pe_supply.specs.Whole.{IsOutputMade, IsInputUsed, IsPortThere, IsNetUsed, IsSetUsed, IsTableUsed, IsWithin, IsWhole}
use Rattle.pe_supply.proofs.Naming.{bytes_same}

-- a plan's names and uses are among another's
record IsPart (p q : Plan) : Type 0 where
  names : (n : List ℕ) → has_name p.names n ≡ true → has_name q.names n ≡ true
  uses : (u : Use) → Contains p.uses u → Contains q.uses u

contains_map : (f : List ℕ → Use) (xs : List (List ℕ)) (k : ℕ) (d : List ℕ) → k < length xs → Contains (map f xs) (f (get_or xs k d))
contains_map f [] k d l = absurd (omega arith)
contains_map f (x ∷ xs) zero d l = (0, omega arith, refl)
contains_map f (x ∷ xs) (suc k) d l = let inside : k < length xs = omega arith in let r = contains_map f xs k d inside in (suc r.0, omega (arith, r.1), r.2)

contains_next : (u v : Use) (us : List Use) → Contains us v → Contains (u ∷ us) v
contains_next u v us c = (suc c.0, omega (arith, c.1), c.2)

contains_first : (u : Use) (us : List Use) → Contains (u ∷ us) u
contains_first u us = (0, omega arith, refl)

contains_given : (o : Option (List ℕ)) (n : List ℕ) → o ≡ Some n → Contains (given (λ m. Supply m) o) (Supply n)
contains_given None n e = cc
contains_given (Some m) n e = let same : m ≡ n = cc in (0, omega arith, ap (λ x. Supply x) same)

-- a plan that speaks of nothing
plain : (p q : Plan) → p.switches ≡ [] → p.ties ≡ [] → p.sets ≡ [] → p.tables ≡ [] → IsWithin p q
plain p q w t s b = record {
  outputs = All-same (IsOutputMade q.names) p.switches [] w (All-nil (IsOutputMade q.names));
  inputs = All-same (IsInputUsed q.uses) p.switches [] w (All-nil (IsInputUsed q.uses));
  ports = All-same (IsPortThere q.names q.uses) p.ties [] t (All-nil (IsPortThere q.names q.uses));
  nets = All-same (IsNetUsed q.uses) p.ties [] t (All-nil (IsNetUsed q.uses));
  sets = All-same (IsSetUsed q.uses) p.sets [] s (All-nil (IsSetUsed q.uses));
  tables = All-same (IsTableUsed q.uses) p.tables [] b (All-nil (IsTableUsed q.uses));
}

or_true : (b : Bool) → b ≡ true → (b || false) ≡ true
or_true true e = refl
or_true false e = absurd (false≢true e)

-- a switch as its command has it
abbrev text : List ℕ → List ℕ × List ℕ → List ℕ × List ℕ → List (List ℕ × List ℕ) → List ℕ × List ℕ × List ℕ → List (List ℕ × List ℕ) → SwitchText
text name output input controls on off = record { name = name; output = output; input = input; controls = controls; on = on.2; off = map (λ state. state.1) off }

by_command : (c : Command) (q : Plan) → IsPart (plan_by c) q → IsWithin (plan_by c) q
unfolding plan_by
by_command (UpfVersion word) q h = plain no_plan q refl refl refl refl
by_command (SetDesignTop top) q h = plain no_plan q refl refl refl refl
by_command (CreatePowerDomain name elements scope primary) q h = plain (plan_by (CreatePowerDomain name elements scope primary)) q refl refl refl refl
by_command (CreateSupplyPort name direction domain) q h = plain (plan_by (CreateSupplyPort name direction domain)) q refl refl refl refl
by_command (CreateSupplyNet name domain reuse) q h = plain (plan_by (CreateSupplyNet name domain reuse)) q refl refl refl refl
by_command (ConnectSupplyNet net ports) q h = record {
  outputs = All-nil (IsOutputMade q.names);
  inputs = All-nil (IsInputUsed q.uses);
  ports = All-map (IsPortThere q.names q.uses) (tie_to net) ports (λ k d l. inr (h.uses (Port (get_or ports k d)) (contains_next (Supply net) (Port (get_or ports k d)) (map (λ p. Port p) ports) (contains_map (λ p. Port p) ports k d l))));
  nets = All-map (IsNetUsed q.uses) (tie_to net) ports (λ k d l. h.uses (Supply net) (contains_first (Supply net) (map (λ p. Port p) ports)));
  sets = All-nil (IsSetUsed q.uses);
  tables = All-nil (IsTableUsed q.uses);
}
by_command (CreateSupplySet name power other) q h =
    record {
      outputs = All-nil (IsOutputMade q.names);
      inputs = All-nil (IsInputUsed q.uses);
      ports = All-nil (IsPortThere q.names q.uses);
      nets = All-nil (IsNetUsed q.uses);
      sets = All-cons (IsSetUsed q.uses) (record { name = name; power_net = power; ground_net = other }) [] (
        (λ n e. h.uses (Supply n) (Contains-append_left (given (λ m. Supply m) power) (given (λ m. Supply m) other) (Supply n) (contains_given power n e))),
        (λ n e. h.uses (Supply n) (Contains-append_right (given (λ m. Supply m) power) (given (λ m. Supply m) other) (Supply n) (contains_given other n e))),
      ) (All-nil (IsSetUsed q.uses));
      tables = All-nil (IsTableUsed q.uses);
    }
by_command (SetDomainSupplyNet name power other) q h = plain (plan_by (SetDomainSupplyNet name power other)) q refl refl refl refl
by_command (CreatePowerSwitch name domain output input controls on off) q h =
    let made : has_name q.names (output_name name output.0) ≡ true = h.names (output_name name output.0) (or_true (bytes_eq (output_name name output.0) (output_name name output.0)) (bytes_same (output_name name output.0) (output_name name output.0) refl)) in
    record {
      outputs = All-cons (IsOutputMade q.names) (text name output input controls on off) [] made (All-nil (IsOutputMade q.names));
      inputs = All-cons (IsInputUsed q.uses) (text name output input controls on off) [] (h.uses (Supply input.1) (1, omega arith, refl)) (All-nil (IsInputUsed q.uses));
      ports = All-cons (IsPortThere q.names q.uses) (output_name name output.0, output.1) [] (inl made) (All-nil (IsPortThere q.names q.uses));
      nets = All-cons (IsNetUsed q.uses) (output_name name output.0, output.1) [] (h.uses (Supply output.1) (0, omega arith, refl)) (All-nil (IsNetUsed q.uses));
      sets = All-nil (IsSetUsed q.uses);
      tables = All-nil (IsTableUsed q.uses);
    }
by_command (AddPortState port states) q h = plain (plan_by (AddPortState port states)) q refl refl refl refl
by_command (CreatePst name supplies) q h = record {
  outputs = All-nil (IsOutputMade q.names);
  inputs = All-nil (IsInputUsed q.uses);
  ports = All-nil (IsPortThere q.names q.uses);
  nets = All-nil (IsNetUsed q.uses);
  sets = All-nil (IsSetUsed q.uses);
  tables = All-cons (IsTableUsed q.uses) (record { name = name; supplies = supplies }) [] (λ k d l. h.uses (Supply (get_or supplies k d)) (contains_map (λ n. Supply n) supplies k d l)) (All-nil (IsTableUsed q.uses));
}
by_command (AddPstState name table states) q h = plain (plan_by (AddPstState name table states)) q refl refl refl refl
by_command (SetIsolation name domain applies elements clamp signal sense supply location none) q h =
    plain (plan_by (SetIsolation name domain applies elements clamp signal sense supply location none)) q refl refl refl refl
by_command (SetRetention name domain elements supply save restore) q h = plain (plan_by (SetRetention name domain elements supply save restore)) q refl refl refl refl
by_command (Ignored command words) q h = plain no_plan q refl refl refl refl

has_append : (xs ys : List (List ℕ)) (n : List ℕ) → has_name (xs ++ ys) n ≡ (has_name xs n || has_name ys n)
has_append [] ys n = refl
has_append (x ∷ xs) ys n = ap (λ b. bytes_eq x n || b) (has_append xs ys n) ∙ regroup (bytes_eq x n) (has_name xs n) (has_name ys n)
  where
    regroup : (a b c : Bool) → (a || (b || c)) ≡ ((a || b) || c)
    regroup true b c = refl
    regroup false b c = refl

or_left_true : (a b : Bool) → a ≡ true → (a || b) ≡ true
or_left_true true b e = refl
or_left_true false b e = absurd (false≢true e)

or_right_true : (a b : Bool) → b ≡ true → (a || b) ≡ true
or_right_true true b e = refl
or_right_true false b e = e

within_of : (cs : List Command) (q : Plan) → IsPart (plan_of cs) q → IsWithin (plan_of cs) q
unfolding plan_of
within_of [] q h = plain no_plan q refl refl refl refl
within_of (c ∷ cs) q h =
    let a : IsWithin (plan_by c) q = by_command c q record {
      names = λ n e. h.names n (has_append (plan_by c).names (plan_of cs).names n ∙ or_left_true (has_name (plan_by c).names n) (has_name (plan_of cs).names n) e);
      uses = λ u e. h.uses u (Contains-append_left (plan_by c).uses (plan_of cs).uses u e);
    } in
    let b : IsWithin (plan_of cs) q = within_of cs q record {
      names = λ n e. h.names n (has_append (plan_by c).names (plan_of cs).names n ∙ or_right_true (has_name (plan_by c).names n) (has_name (plan_of cs).names n) e);
      uses = λ u e. h.uses u (Contains-append_right (plan_by c).uses (plan_of cs).uses u e);
    } in
    record {
      outputs = All-append (IsOutputMade q.names) (plan_by c).switches (plan_of cs).switches a.outputs b.outputs;
      inputs = All-append (IsInputUsed q.uses) (plan_by c).switches (plan_of cs).switches a.inputs b.inputs;
      ports = All-append (IsPortThere q.names q.uses) (plan_by c).ties (plan_of cs).ties a.ports b.ports;
      nets = All-append (IsNetUsed q.uses) (plan_by c).ties (plan_of cs).ties a.nets b.nets;
      sets = All-append (IsSetUsed q.uses) (plan_by c).sets (plan_of cs).sets a.sets b.sets;
      tables = All-append (IsTableUsed q.uses) (plan_by c).tables (plan_of cs).tables a.tables b.tables;
    }

-- the ports that a command makes are names that it makes
port_by : (c : Command) (n : List ℕ) → has_name (plan_by c).ports n ≡ true → has_name (plan_by c).names n ≡ true
unfolding plan_by
port_by (UpfVersion word) n e = e
port_by (SetDesignTop top) n e = e
port_by (CreatePowerDomain name elements scope primary) n e = e
port_by (CreateSupplyPort name direction domain) n e = e
port_by (CreateSupplyNet name domain reuse) n e = absurd (false≢true e)
port_by (ConnectSupplyNet net ports) n e = e
port_by (CreateSupplySet name power other) n e = e
port_by (SetDomainSupplyNet name power other) n e = e
port_by (CreatePowerSwitch name domain output input controls on off) n e = e
port_by (AddPortState port states) n e = e
port_by (CreatePst name supplies) n e = e
port_by (AddPstState name table states) n e = e
port_by (SetIsolation name domain applies elements clamp signal sense supply location none) n e = e
port_by (SetRetention name domain elements supply save restore) n e = e
port_by (Ignored command words) n e = e

either : (a b c d : Bool) → (a ≡ true → c ≡ true) → (b ≡ true → d ≡ true) → (a || b) ≡ true → (c || d) ≡ true
either true b c d h k e = or_left_true c d (h refl)
either false b c d h k e = or_right_true c d (k e)

port_of : (cs : List Command) (n : List ℕ) → has_name (plan_of cs).ports n ≡ true → has_name (plan_of cs).names n ≡ true
unfolding plan_of
port_of [] n e = e
port_of (c ∷ cs) n e =
    has_append (plan_by c).names (plan_of cs).names n
    ∙ either (has_name (plan_by c).ports n) (has_name (plan_of cs).ports n) (has_name (plan_by c).names n) (has_name (plan_of cs).names n) (port_by c n) (port_of cs n)
    (sym (has_append (plan_by c).ports (plan_of cs).ports n) ∙ e)

pub whole_of : (cs : List Command) → IsWhole (plan_of cs)
whole_of cs = record { within = within_of cs (plan_of cs) (record { names = λ n e. e; uses = λ u e. e }); ports = port_of cs }
