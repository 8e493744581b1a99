use Rattle.pages.proofs.Shows.{missing_put, wrong_put, number_put, string_put}
use Rattle.values.specs.Inner.Texts.{strings}
use Rattle.pages.proofs.field.put_field.Goals as goal

pub returns-in-Missing : goal.returns-in-Missing
returns-in-Missing c = let a = c.args in
    let s = strings a.line.now a.store.now a.rows.now in
    missing_put s a.worth _ _ _ _ _ _ _ c.requires c.in-Missing.is c.missing-put.ensures c.stars.ensures

pub returns-in-Wrong : goal.returns-in-Wrong
returns-in-Wrong c = let a = c.args in
    let s = strings a.line.now a.store.now a.rows.now in
    wrong_put s a.worth _ _ _ _ _ _ _ c.requires c.in-Wrong.is c.missing-put-in-Wrong.ensures c.stars-in-Wrong.ensures

pub returns-in-Number : goal.returns-in-Number
returns-in-Number c = let a = c.args in
    let s = strings a.line.now a.store.now a.rows.now in
    number_put s a.worth _ _ _ _ _ _ _ c.requires _ c.in-Number.is c.number-put.ensures c.stars-in-Number.ensures

pub returns-in-Text : goal.returns-in-Text
returns-in-Text c = let a = c.args in
    let s = strings a.line.now a.store.now a.rows.now in
    string_put s a.worth _ _ _ _ _ _ c.in-Text.is c.put_text.ensures
