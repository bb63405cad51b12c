use Rattle.std.proofs.Common.{◌∙◌, refl, sym, ap, Some}
use Rattle.std.specs.FinMap as map
use Rattle.ods_base.specs.Names.{NameMap}
use Rattle.ods_directory.specs.Names.{names_of as names_in}
use Rattle.ods_request.specs.declared.rights.Right.TheVariants as right
use Rattle.ods_request.specs.Faults.{first_of, cannot_enter}
use Rattle.ods_request.proofs.FaultTable.{fault_enter}
use Rattle.ods_look.specs.Opening.{directory_checks}
use Rattle.ods_look.proofs.FilesFound.{no_such_id, found_there}
use Rattle.ods_look.proofs.OpenDirectories.{names_found, names_there}
use Rattle.ods_change.proofs.NewEntries.{entering, behind_file, no_file_there, not_entered, may_enter, entered_is}
use Rattle.ods_change.proofs.entry.new_entry.Goals as goal

pub returns-in_default : goal.returns-in_default
returns-in_default c = λ C shown.
    fault_enter C c.args.who c.args.dir c.args.name c.args.version c.args.file
    ∙ no_file_there (map.get C.files c.args.dir) (map.get C.files c.args.file) (directory_checks c.args.who right.Write (entering c.args.name c.args.version))
    (no_such_id c.args.disk.now.image.now c.args.disk.now.layout.now C shown c.args.file c.in_default.ensures.none)

pub returns-in-Err : goal.returns-in-Err
returns-in-Err c = λ C shown.
    let known = c.in-Some.ensures.some.0 in
    let whole = c.requires.sound.chains c.args.file.number known.0 in
    fault_enter C c.args.who c.args.dir c.args.name c.args.version c.args.file
    ∙ behind_file (map.get C.files c.args.dir) (map.get C.files c.args.file) (directory_checks c.args.who right.Write (entering c.args.name c.args.version)) _
    (found_there shown c.args.file known whole)
    ∙ c.in-Err.ensures.err C (entering c.args.name c.args.version) shown

pub returns-in-Err-enter : goal.returns-in-Err-enter
returns-in-Err-enter c = λ C shown.
    let known = c.in-Some.ensures.some.0 in
    let whole = c.requires.sound.chains c.args.file.number known.0 in
    let opened = c.in-Ok.opened in
    fault_enter C c.args.who c.args.dir c.args.name c.args.version c.args.file
    ∙ behind_file (map.get C.files c.args.dir) (map.get C.files c.args.file) (directory_checks c.args.who right.Write (entering c.args.name c.args.version)) _
    (found_there shown c.args.file known whole)
    ∙ (c.in-Ok.ensures.ok.passes C shown).left (entering c.args.name c.args.version)
    ∙ ap (λ (m : NameMap). first_of (cannot_enter m c.args.name c.args.version)) (names_found c.in-Ok.ensures.ok shown)
    ∙ not_entered (names_in opened.blocks opened.mark) c.args.name c.words.ensures.name.three c.args.version c.in-Err-enter.fault c.in-Err-enter.ensures.err
    ∙ ap Some (sym c.refusal_of.ensures)

pub returns : goal.returns
returns c =
    let opened = c.in-Ok.opened in
    let own = c.in-Ok.ensures.ok in
    let entry = c.in-Ok-enter.ensures in
    record {
      image = refl;
      layout = refl;
      directory = refl;
      entry = record {
        own = own;
        answered = λ C shown.
            let known = c.in-Some.ensures.some.0 in
            let whole = c.requires.sound.chains c.args.file.number known.0 in (
              fault_enter C c.args.who c.args.dir c.args.name c.args.version c.args.file
                  ∙ behind_file (map.get C.files c.args.dir) (map.get C.files c.args.file) (directory_checks c.args.who right.Write (entering c.args.name c.args.version)) _
                  (found_there shown c.args.file known whole)
                  ∙ (own.passes C shown).left (entering c.args.name c.args.version)
                  ∙ ap (λ (m : NameMap). first_of (cannot_enter m c.args.name c.args.version)) (names_found own shown)
                  ∙ may_enter (names_in opened.blocks opened.mark) c.args.name c.words.ensures.name.three c.args.version c.in-Ok-enter.entered.0 entry.version,
              entered_is (names_in opened.blocks opened.mark) c.args.name c.words.ensures.name.three C c.args.dir c.args.version c.args.file c.in-Ok-enter.entered.0
                  (names_there own shown) entry.version,
            );
        slot = entry.slot;
        bytes = entry.bytes;
        names = entry.names;
        stays = entry.stays;
      };
    }
