mod Fits
mod Grammar
mod Items
mod Named
mod Numbers
mod Reading
mod Texts
