-- Where a link leads.
use Rattle.std.specs.Prelude.{string_bytes}
use Rattle.std.proofs.Common.{inl, inr, refl}
use Rattle.fs_host.proofs.Slashes.{leads_in, leads_ok, uncut_alone, not_from_root}
use Rattle.fs_host.proofs.names.from_folder.Goals as goal

pub returns-in-Some : goal.returns-in-Some
returns-in-Some c =
    let far = not_from_root c.args.link.now c.starts_with.result c.starts_with.ensures.cases c.if-starts_with.false in
    leads_ok c.format.result string_bytes _ _ _ c.format.ensures.ok (leads_in _ _ _ c.args.link.now c.in-Some.ensures.cases far)

pub returns-in-None : goal.returns-in-None
returns-in-None c = leads_ok c.from_str-in-None.result string_bytes _ _ _ c.from_str-in-None.ensures.ok (inr (inl (uncut_alone _ c.in-None.ensures.cases, refl)))
