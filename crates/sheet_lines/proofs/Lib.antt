pub mod Pages
pub mod WhatWasRead
