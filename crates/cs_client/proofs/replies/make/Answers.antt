use Rattle.std.proofs.Common.{rules, ap}
use Rattle.cs_client.specs.Calls.{IsNewIn}
use Rattle.cs_client.specs.Contexts.{home_context}
use Rattle.cs_client.specs.Replies.{made_list}
use Rattle.cs_client.specs.Rows.{new_file}
use Rattle.cs_client.proofs.Made.{AddsRow}
use Rattle.cs_client.proofs.Makings.{dir_made, directory_follow, file_homes, file_made, new_directory, new_file_row}
use Rattle.cs_client.proofs.replies.make.Goals as goal

pub add_directory-requires-clause-parent : goal.add_directory-requires-clause-parent
add_directory-requires-clause-parent c =
    (c.requires.new (dir_made c.in-Directory.ino c.in-Directory.dir) (ap made_list c.in-Directory.is)).parent

pub add_directory-requires-clause-new : goal.add_directory-requires-clause-new
add_directory-requires-clause-new c =
    new_directory c.in-Directory.ino c.in-Directory.dir c.args.tree.now c.args.files.now
    (c.requires.new (dir_made c.in-Directory.ino c.in-Directory.dir) (ap made_list c.in-Directory.is))

pub add_file-requires-clause-new : goal.add_file-requires-clause-new
add_file-requires-clause-new c =
    new_file_row c.in-File.ino c.in-File.dir c.args.tree.now c.args.files.now
    (c.requires.new (file_made c.in-File.ino c.in-File.dir) (ap made_list c.in-File.is))

pub returns-in_ok-add_directory-in-Directory-clause-follow : goal.returns-in_ok-add_directory-in-Directory-clause-follow
returns-in_ok-add_directory-in-Directory-clause-follow c =
    let is : IsNewIn c.in-Directory.ino c.in-Directory.dir c.args.tree.now c.args.files.now =
    c.requires.new (dir_made c.in-Directory.ino c.in-Directory.dir) (ap made_list c.in-Directory.is) in
    directory_follow c.args.tree.now c.add_directory.new.tree c.args.realms.now c.args.files.now c.in-Directory.ino c.in-Directory.dir
    c.in_ok-add_directory-in-Directory.ensures.tree (new_directory c.in-Directory.ino c.in-Directory.dir c.args.tree.now c.args.files.now is) c.requires.homes

pub returns-in_ok-add_file-in-File-clause-homes : goal.returns-in_ok-add_file-in-File-clause-homes
returns-in_ok-add_file-in-File-clause-homes c =
    let is : IsNewIn c.in-File.ino c.in-File.dir c.args.tree.now c.args.files.now =
    c.requires.new (file_made c.in-File.ino c.in-File.dir) (ap made_list c.in-File.is) in
    let context = home_context c.args.tree.now c.args.realms.now c.in-File.dir in
    let adds : AddsRow c.args.files.now c.add_file.new.files c.in-File.ino (new_file c.in-File.ino c.in-File.dir context) = λ f. search rules in
    file_homes c.args.tree.now c.args.realms.now c.args.files.now c.add_file.new.files c.in-File.ino c.in-File.dir is.parent adds c.requires.homes
